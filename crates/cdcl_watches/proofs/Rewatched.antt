-- A literal is watched in place of another: lists of watchers before and after.
use Rattle.std.proofs.Common.{◌≡◌, ◌≢◌, ℕ, ◌<◌, ◌≤◌, List, [], ◌∷◌, ◌++◌, set, length, get_or, sym, ap, ap₂, ◌∙◌, subst, arith}
use Rattle.std.specs.List.{remove, swap}
use Rattle.std.proofs.lemmas.List.{get_or_default}
use Rattle.cnf_base.specs.declared.literal.Literal.{Literal}
use Rattle.cdcl_watches.specs.declared.watcher.Watcher.{Watcher}
use Rattle.cdcl_watches.specs.Watching.{code, list_of, clause_of, IsWatching}
use Rattle.cdcl_watches.specs.Watchers.{clause_number, numbers, IsBlocking, AreBlockers, AreWatchers}
use Rattle.cdcl_watches.proofs.Moves.{rewatch_watching, list_other}
use Rattle.cdcl_watches.proofs.Numbers.{length_at, numbers_push, numbers_remove}
use Rattle.cdcl_watches.proofs.Blockers.{blockers_push, blockers_remove, blockers_swapped}

module _ (heads : List ℕ) (clauses : List (List Literal)) (lists mid new : List (List Watcher)) (c : ℕ) (second other : Literal) (i j : ℕ) (w : Watcher)
    (are : AreWatchers heads clauses lists)
    (known : c < length clauses) (high : 2 ≤ j) (within : j < length (clause_of clauses c))
    (second_is : second ≡ get_or (clause_of clauses c) 1 second) (other_is : other ≡ get_or (clause_of clauses c) j other)
    (low : i < length (list_of (numbers heads lists) second)) (names : clause_number heads w ≡ c)
    (pushed : mid ≡ set lists (code other) (get_or lists (code other) [] ++ w ∷ [])) where
  other_at : other ≡ get_or (clause_of clauses c) j second
  other_at = other_is ∙ get_or_default (clause_of clauses c) j other second within

  differ : second ≢ other
  differ e = are.watching.apart c known 1 j second (omega arith) within (sym second_is ∙ e ∙ other_at)

  mid_is : numbers heads mid ≡ set (numbers heads lists) (code other) (list_of (numbers heads lists) other ++ c ∷ [])
  mid_is = ap (numbers heads) pushed ∙ numbers_push heads are.none lists (code other) w
      ∙ ap (λ n. set (numbers heads lists) (code other) (list_of (numbers heads lists) other ++ n ∷ [])) names

  mid_second : list_of (numbers heads mid) second ≡ list_of (numbers heads lists) second
  mid_second = ap (λ ns. list_of ns second) mid_is ∙ list_other (numbers heads lists) other second (list_of (numbers heads lists) other ++ c ∷ []) differ

  -- the place is still one of the list's
  pub place_mid : i < length (get_or mid (code second) [])
  place_mid = omega (arith, length_at heads are.none mid (code second), ap length mid_second)

  module _ (removed : new ≡ set mid (code second) (remove (get_or mid (code second) []) i)) where
    pub moved_is : numbers heads new ≡ set (set (numbers heads lists) (code other) (list_of (numbers heads lists) other ++ c ∷ [])) (code second)
        (remove (list_of (numbers heads lists) second) i)
    moved_is =
        ap (numbers heads) removed ∙ numbers_remove heads are.none mid (code second) i ∙ ap₂ (λ ns xs. set ns (code second) (remove xs i)) mid_is mid_second

    pub moved_watchers : get_or (list_of (numbers heads lists) second) i 0 ≡ c → IsBlocking heads clauses w
        → AreWatchers heads (set clauses c (swap (clause_of clauses c) 1 j)) new
    moved_watchers there blocking = record {
      none = are.none;
      watching = subst (IsWatching (set clauses c (swap (clause_of clauses c) 1 j))) (sym moved_is)
          (rewatch_watching clauses (numbers heads lists) c are.watching known second second other i j high within second_is other_at low there);
      blockers = blockers_swapped heads clauses new c 1 j known (omega arith) within
          (subst (AreBlockers heads clauses) (sym removed) (blockers_remove heads clauses mid (code second)
          (subst (AreBlockers heads clauses) (sym pushed) (blockers_push heads clauses lists (code other) are.blockers w blocking)) i place_mid));
    }
