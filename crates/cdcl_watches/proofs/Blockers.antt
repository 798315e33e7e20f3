-- Each watcher's blocker stays a literal of its clause.
use Rattle.std.proofs.Common.{◌≡◌, ℕ, ◌<◌, inl, inr, List, [], ◌∷◌, ◌++◌, map, set, All, Contains, length, get_or, refl, sym, ap₂, subst, arith}
use Rattle.std.proofs.Common.{get_or-set_same, get_or-set_other}
use Rattle.std.specs.List.{remove, swap}
use Rattle.std.proofs.lemmas.Bool.{cases_lt, cases_eq}
use Rattle.std.proofs.lemmas.List.{get_or_past, get_or_append_left}
use Rattle.std.proofs.lemmas.List.Elements.{All-set, All-push, All-nil, All-head, All-tail, Contains-append_left}
use Rattle.cnf_base.specs.declared.literal.Literal.{Literal}
use Rattle.cdcl_watches.specs.declared.watcher.Watcher.{Watcher}
use Rattle.cdcl_watches.specs.Watching.{clause_of}
use Rattle.cdcl_watches.specs.Watchers.{clause_number, numbers, blocker_of, IsBlocking, AreBlockers}
use Rattle.cdcl_watches.proofs.HeadNumbers.{number_more}
use Rattle.cdcl_watches.proofs.Moves.{contains_swapped}
use Rattle.cdcl_watches.proofs.Removed.{place_before, length-removed}

-- two numberings that agree on each watcher
map_same : {X Y : Type 0} (f g : X → Y) (xs : List X) → All (λ x. f x ≡ g x) xs → map f xs ≡ map g xs
map_same f g [] same = refl
map_same f g (x ∷ xs) same = ap₂ ◌∷◌ (All-head (λ y. f y ≡ g y) x xs same) (map_same f g xs (All-tail (λ y. f y ≡ g y) x xs same))

maps_same : {X Y : Type 0} (f g : X → Y) (xss : List (List X)) → All (λ xs. All (λ x. f x ≡ g x) xs) xss → map (λ xs. map f xs) xss ≡ map (λ xs. map g xs) xss
maps_same f g [] same = refl
maps_same {X} f g (xs ∷ xss) same =
    let P : List X → Type 0 = λ ys. All (λ x. f x ≡ g x) ys in
    ap₂ ◌∷◌ (map_same f g xs (All-head P xs xss same)) (maps_same f g xss (All-tail P xs xss same))

-- each watcher of a list
pub blocking_list : (heads : List ℕ) (clauses : List (List Literal)) (lists : List (List Watcher)) (k : ℕ) → AreBlockers heads clauses lists
    → All (IsBlocking heads clauses) (get_or lists k [])
blocking_list heads clauses lists k are = elim (cases_lt k (length lists)) [
  | inl low ↦ are k [] low
  | inr high ↦ subst (All (IsBlocking heads clauses)) (sym (get_or_past lists k [] high)) (All-nil (IsBlocking heads clauses))
]

module _ (heads : List ℕ) (clauses : List (List Literal)) (lists : List (List Watcher)) (k : ℕ) (are : AreBlockers heads clauses lists) where
  pub blockers_push : (w : Watcher) → IsBlocking heads clauses w → AreBlockers heads clauses (set lists k (get_or lists k [] ++ w ∷ []))
  blockers_push w is =
      All-set (All (IsBlocking heads clauses)) lists k (get_or lists k [] ++ w ∷ [])
      (All-push (IsBlocking heads clauses) (get_or lists k []) w (blocking_list heads clauses lists k are) is) are

  pub blockers_set : (i : ℕ) (w : Watcher) → IsBlocking heads clauses w → AreBlockers heads clauses (set lists k (set (get_or lists k []) i w))
  blockers_set i w is =
      All-set (All (IsBlocking heads clauses)) lists k (set (get_or lists k []) i w)
      (All-set (IsBlocking heads clauses) (get_or lists k []) i w is (blocking_list heads clauses lists k are)) are

  pub blockers_remove : (i : ℕ) → i < length (get_or lists k []) → AreBlockers heads clauses (set lists k (remove (get_or lists k []) i))
  blockers_remove i low =
      let ws = get_or lists k [] in
      All-set (All (IsBlocking heads clauses)) lists k (remove ws i)
      (λ j d below.
      let before = place_before ws i low j (omega (arith, below, length-removed ws i low)) in
      subst (IsBlocking heads clauses) (sym (before.3 d)) (blocking_list heads clauses lists k are before.0 d before.1))
      are

-- each clause keeps its literals
pub blockers_kept : (heads : List ℕ) (clauses new : List (List Literal)) (lists : List (List Watcher))
    → ((c : ℕ) (l : Literal) → Contains (clause_of clauses c) l → Contains (clause_of new c) l) → AreBlockers heads clauses lists → AreBlockers heads new lists
blockers_kept heads clauses new lists kept are k d low = λ i e below.
    let w = get_or (get_or lists k d) i e in
    let is = are k d low i e below in
    record { stands = is.stands; blocks = kept (clause_number heads w) (blocker_of w) is.blocks }

-- two literals of a clause change places
pub blockers_swapped : (heads : List ℕ) (clauses : List (List Literal)) (lists : List (List Watcher)) (c a b : ℕ) → c < length clauses
    → a < length (clause_of clauses c) → b < length (clause_of clauses c)
    → AreBlockers heads clauses lists → AreBlockers heads (set clauses c (swap (clause_of clauses c) a b)) lists
blockers_swapped heads clauses lists c a b known a_low b_low are =
    let r = clause_of clauses c in
    let more = set clauses c (swap r a b) in
    blockers_kept heads clauses more lists
    (λ n l there. elim (cases_eq n c) [
      | inl same ↦
          let in_r = subst (λ m. Contains (clause_of clauses m) l) same there in
          subst (λ m. Contains (clause_of more m) l) (sym same)
          (subst (λ x. Contains x l) (sym (get_or-set_same clauses c (swap r a b) [] known)) (contains_swapped r a b l a_low b_low in_r))
      | inr other ↦ subst (λ x. Contains x l) (sym (get_or-set_other clauses c n (swap r a b) [] other)) there
    ])
    are

-- a clause that has a literal is one of the clauses
pub known_clause : (clauses : List (List Literal)) (c : ℕ) (l : Literal) → Contains (clause_of clauses c) l → c < length clauses
known_clause clauses c l there = elim (cases_lt c (length clauses)) [
  | inl low ↦ low
  | inr high ↦ let t = subst (λ x. Contains x l) (get_or_past clauses c [] high) there in omega (arith, t.1)
]

-- a clause is put behind the others
pub blockers_more : (heads : List ℕ) (clauses : List (List Literal)) (lists : List (List Watcher)) (r : List Literal) → AreBlockers heads clauses lists
    → AreBlockers heads (clauses ++ r ∷ []) lists
blockers_more heads clauses lists r are =
    blockers_kept heads clauses (clauses ++ r ∷ []) lists
    (λ c l there. subst (λ x. Contains x l) (sym (get_or_append_left clauses (r ∷ []) [] c (known_clause clauses c l there))) there)
    are

-- a head behind the others changes no number
module _ (heads ys : List ℕ) (clauses : List (List Literal)) (lists : List (List Watcher)) (are : AreBlockers heads clauses lists) where
  pub numbers_longer : numbers (heads ++ ys) lists ≡ numbers heads lists
  numbers_longer = maps_same (clause_number (heads ++ ys)) (clause_number heads) lists
      (λ k d low i e below. number_more heads ys (get_or (get_or lists k d) i e).head (are k d low i e below).stands)

  pub blockers_longer : AreBlockers (heads ++ ys) clauses lists
  blockers_longer k d low i e below =
      let w = get_or (get_or lists k d) i e in
      let is = are k d low i e below in
      record {
        stands = Contains-append_left heads ys w.head is.stands;
        blocks = subst (λ m. Contains (clause_of clauses m) (blocker_of w)) (sym (number_more heads ys w.head is.stands)) is.blocks;
      }
