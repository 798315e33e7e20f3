-- Where the watch rule holds on the whole trail, the trail is settled.
use Rattle.std.proofs.Common.{◌≡◌, ℕ, ◌<◌, ◌≤◌, ◌⊎◌, inl, inr, List, Bool, Option, Some, Contains, length, get_or, refl, sym, ◌∙◌, subst, arith}
use Rattle.std.proofs.lemmas.List.Elements.{All-contains, Contains-get_or}
use Rattle.cnf_base.specs.declared.literal.Literal.{Literal}
use Rattle.cnf_base.specs.declared.literal.Hint.{Hint}
use Rattle.cnf_base.specs.Literal.{opposite}
use Rattle.cnf_base.specs.Step.{named}
use Rattle.clause_log.specs.LogValue.{LogValue}
use Rattle.cdcl_trail.specs.Trail.{literals_of, AreValues, IsConflict, IsReason, IsUnset}
use Rattle.cdcl_trail.specs.declared.assigned.TrailEntry.{TrailEntry}
use Rattle.cdcl_watches.specs.Watching.{IsWatch, AreApart, clause_of, blank}
use Rattle.cdcl_watches.proofs.Moves.{are_first}
use Rattle.cdcl_propagate.specs.Visit.{HaveSame, IsGuarded}
use Rattle.cdcl_trail.proofs.Standing.{not_both, place_of}

module _ (values : List (Option Bool)) (trail : List TrailEntry) (are : AreValues values trail) (clauses : List (List Literal))
    (guarded : IsGuarded clauses trail (length trail)) where
  -- where a watched literal is false, and each literal but u, u is true
  lone_by : (c : ℕ) (u a : Literal) → c < length clauses → IsWatch (clause_of clauses c) a → Contains (literals_of trail) (opposite a)
      → ((l : Literal) → Contains (clause_of clauses c) l → (l ≡ u) ⊎ Contains (literals_of trail) (opposite l)) → Contains (literals_of trail) u
  lone_by c u a known watch a_false others =
      let place = place_of trail (opposite a) a_false in
      let told = guarded c place.0 a known watch place.1 place.2 in
      elim (others told.0 told.1) [
        | inl is ↦ subst (Contains (literals_of trail)) is told.2
        | inr is_false ↦ absurd (not_both values trail are told.0 told.2 is_false)
      ]

  -- where each literal but u is false, u is true
  lone_true : (c : ℕ) (u : Literal) → c < length clauses → AreApart (clause_of clauses c) → 2 ≤ length (clause_of clauses c)
      → ((l : Literal) → Contains (clause_of clauses c) l → (l ≡ u) ⊎ Contains (literals_of trail) (opposite l)) → Contains (literals_of trail) u
  lone_true c u known apart long others =
      let r = clause_of clauses c in
      let a = get_or r 0 blank in
      let b = get_or r 1 blank in
      let a_watch : IsWatch r a = (b, are_first r a b blank long (inl (refl, refl))) in
      let b_watch : IsWatch r b = (a, are_first r b a blank long (inr (refl, refl))) in
      elim (others a (Contains-get_or r 0 blank (omega arith))) [
        | inr a_false ↦ lone_by c u a known a_watch a_false others
        | inl a_is ↦ elim (others b (Contains-get_or r 1 blank (omega arith))) [
          | inl b_is ↦ absurd (apart 0 1 blank (omega arith) (omega arith) (a_is ∙ sym b_is))
          | inr b_false ↦ lone_by c u b known b_watch b_false others
        ]
      ]

  -- a clause that is watched is no conflict, and has no literal left to assign
  pub settled_watched : (log : LogValue) (hint : Hint) → ((c : ℕ) → c < length clauses → AreApart (clause_of clauses c))
      → ((c : ℕ) → c < length clauses → 2 ≤ length (clause_of clauses c))
      → ((clause : List Literal) → named log.inputs log.lines hint ≡ Some clause → (c : ℕ) × (c < length clauses) × HaveSame clause (clause_of clauses c))
      → (¬ IsConflict log.inputs log.lines (literals_of trail) hint)
      × ((u : Literal) → IsReason log.inputs log.lines (literals_of trail) u hint → ¬ IsUnset (literals_of trail) u)
  settled_watched log hint apart long stored =
      let T = literals_of trail in
      let one : (clause : List Literal) (u : Literal) → named log.inputs log.lines hint ≡ Some clause
      → ((l : Literal) → Contains clause l → (l ≡ u) ⊎ Contains T (opposite l)) → Contains T u =
      λ clause u is others.
      let at = stored clause is in
      let r = clause_of clauses at.0 in
      let back : (l : Literal) → Contains r l → Contains clause l = λ l h. All-contains (Contains clause) r l at.2.back h in
      lone_true at.0 u at.1 (apart at.0 at.1) (long at.0 at.1) (λ l h. others l (back l h)) in (
        (λ conflict.
            let all_false : (l : Literal) → Contains conflict.clause l → Contains T (opposite l) =
            λ l h. All-contains (λ m. Contains T (opposite m)) conflict.clause l conflict.all_false h in
            let at = stored conflict.clause conflict.is in
            let r = clause_of clauses at.0 in
            let u = get_or r 0 blank in
            let u_in : Contains r u = Contains-get_or r 0 blank (omega (arith, long at.0 at.1)) in
            let u_clause : Contains conflict.clause u = All-contains (Contains conflict.clause) r u at.2.back u_in in
            not_both values trail are u (one conflict.clause u conflict.is (λ l h. inr (all_false l h))) (all_false u u_clause)),
        (λ u reason unset.
            unset.not_true (one reason.clause u reason.is (λ l h. All-contains (λ m. (m ≡ u) ⊎ Contains T (opposite m)) reason.clause l reason.others h))),
      )
