-- What keeps the clauses watched, each blocker a literal of its clause: a turn, a refreshed blocker, a letter more or fewer.
use Rattle.std.proofs.Common.{◌≡◌, ℕ, ◌<◌, ◌≤◌, ◌-◌, List, [], ◌∷◌, ◌++◌, take, set, All, Contains, length, get_or, sym, ap, ◌∙◌, subst, append_assoc, arith}
use Rattle.std.specs.List.{swap}
use Rattle.std.proofs.lemmas.List.{length_push}
use Rattle.std.proofs.lemmas.List.Elements.{All-push, All-take, All-nil, Contains-get_or}
use Rattle.cnf_base.specs.declared.literal.Literal.{Literal}
use Rattle.cdcl_watches.specs.declared.watcher.Watcher.{Watcher}
use Rattle.cdcl_watches.specs.Watching.{clause_of, IsWatching, IsWidened, WatchValue, blank}
use Rattle.cdcl_watches.specs.Watchers.{nobody, clause_number, numbers, blocker_of, IsBlocking, AreBlockers, AreWatchers}
use Rattle.cdcl_watches.specs.Heads.{number_of}
use Rattle.cdcl_watches.proofs.Moves.{turn_watching}
use Rattle.cdcl_watches.proofs.Added.{letter_watching, take_back_is}
use Rattle.cdcl_watches.proofs.Numbers.{length_numbers, numbers_refreshed, numbers_two, numbers_shrink}
use Rattle.cdcl_watches.proofs.Blockers.{blockers_set, blockers_swapped}

-- the first two literals of a clause change places
pub turned_watchers : (heads : List ℕ) (clauses : List (List Literal)) (lists : List (List Watcher)) (c : ℕ) → c < length clauses
    → 2 ≤ length (clause_of clauses c) → AreWatchers heads clauses lists → AreWatchers heads (set clauses c (swap (clause_of clauses c) 0 1)) lists
turned_watchers heads clauses lists c known long are = record {
  none = are.none;
  watching = turn_watching clauses (numbers heads lists) c are.watching known blank long;
  blockers = blockers_swapped heads clauses lists c 0 1 known (omega arith) (omega arith) are.blockers;
}

-- a watcher of the same clause is put at a place
pub refreshed_watchers : (heads : List ℕ) (clauses : List (List Literal)) (lists : List (List Watcher)) (k i : ℕ) (w : Watcher)
    → clause_number heads w ≡ clause_number heads (get_or (get_or lists k []) i nobody) → IsBlocking heads clauses w
    → AreWatchers heads clauses lists → AreWatchers heads clauses (set lists k (set (get_or lists k []) i w))
refreshed_watchers heads clauses lists k i w same is are = record {
  none = are.none;
  watching = subst (IsWatching clauses) (sym (numbers_refreshed heads are.none lists k i w same)) are.watching;
  blockers = blockers_set heads clauses lists k are.blockers i w is;
}

-- two lists more
pub letter_watchers : (heads : List ℕ) (clauses : List (List Literal)) (lists : List (List Watcher)) → AreWatchers heads clauses lists
    → AreWatchers heads clauses ((lists ++ [] ∷ []) ++ [] ∷ [])
letter_watchers heads clauses lists are = record {
  none = are.none;
  watching = subst (IsWatching clauses) (sym (numbers_two heads are.none lists)) (letter_watching clauses (numbers heads lists) are.watching);
  blockers = All-push (All (IsBlocking heads clauses)) (lists ++ [] ∷ []) []
      (All-push (All (IsBlocking heads clauses)) lists [] are.blockers (All-nil (IsBlocking heads clauses))) (All-nil (IsBlocking heads clauses));
}

-- two lists fewer
module _ (w : WatchValue) (heads names : List ℕ) (none : clause_number heads nobody ≡ 0) (clauses : List (List Literal)) (lists mid new : List (List Watcher))
    (widened : IsWidened w (record { clauses = clauses; lists = numbers heads lists; names = names })) (first : mid ≡ take (length lists - 1) lists) where
  pub mid_numbers : numbers heads mid ≡ w.lists ++ [] ∷ []
  mid_numbers = take_back_is (w.lists ++ [] ∷ []) (numbers heads lists) (numbers heads mid) [] (numbers_shrink heads none lists mid first)
      (ap (λ (v : WatchValue). v.lists) widened.is ∙ sym (append_assoc w.lists ([] ∷ []) ([] ∷ [])))

  pub mid_some : 0 < length mid
  mid_some = omega (arith, length_numbers heads none mid, ap length mid_numbers, length_push w.lists [])

  module _ (second : new ≡ take (length mid - 1) mid) where
    pub narrowed_is : (let v : WatchValue = record { clauses = clauses; lists = numbers heads new; names = names } in v) ≡ w
    narrowed_is =
        ap (λ (v : WatchValue). let u : WatchValue = record { clauses = v.clauses; lists = numbers heads new; names = v.names } in u) widened.is
        ∙ ap (λ ls. let u : WatchValue = record { clauses = w.clauses; lists = ls; names = w.names } in u)
        (take_back_is w.lists (numbers heads mid) (numbers heads new) [] (numbers_shrink heads none mid new second) mid_numbers)

    pub narrowed_watchers : AreWatchers heads clauses lists → AreWatchers heads clauses new
    narrowed_watchers are = record {
      none = none;
      watching = subst (λ (v : WatchValue). IsWatching v.clauses v.lists) (sym narrowed_is) widened.watching;
      blockers = subst (AreBlockers heads clauses) (sym second) (All-take (All (IsBlocking heads clauses)) (length mid - 1) mid
          (subst (AreBlockers heads clauses) (sym first) (All-take (All (IsBlocking heads clauses)) (length lists - 1) lists are.blockers)));
    }

-- a watcher with a literal of its clause
pub blocking_from : (heads : List ℕ) (clauses : List (List Literal)) (row : List Literal) (head k : ℕ) (l : Literal) (w : Watcher)
    → w.head ≡ head → blocker_of w ≡ l → l ≡ get_or row k blank
    → row ≡ clause_of clauses (number_of heads head) → k < length row → Contains heads head → IsBlocking heads clauses w
blocking_from heads clauses row head k l w head_is blocker_is l_is row_is low there = record {
  stands = subst (Contains heads) (sym head_is) there;
  blocks = subst (λ h. Contains (clause_of clauses (number_of heads h)) (blocker_of w)) (sym head_is)
      (subst (λ r. Contains r (blocker_of w)) row_is (subst (Contains row) (sym (blocker_is ∙ l_is)) (Contains-get_or row k blank low)));
}
