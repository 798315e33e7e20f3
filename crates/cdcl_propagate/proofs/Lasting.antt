-- The watch rule with levels, and the one without.
use Rattle.std.proofs.Common.{◌≡◌, ℕ, ◌<◌, ◌≤◌, ◌+◌, inl, inr, List, Contains, length, sym, subst, arith}
use Rattle.std.proofs.lemmas.Bool.{cases_lt}
use Rattle.cnf_base.specs.declared.literal.Literal.{Literal}
use Rattle.cdcl_trail.specs.Trail.{IsTrail, blank_entry, literal_at}
use Rattle.cdcl_trail.specs.declared.assigned.TrailEntry.{TrailEntry}
use Rattle.cdcl_trail.proofs.Assign.{entry_there}
use Rattle.cdcl_trail.proofs.Levels.{level_at}
use Rattle.cdcl_watches.specs.Watching.{clause_of}
use Rattle.cdcl_propagate.specs.Visit.{IsGuarded}
use Rattle.cdcl_propagate.specs.Lasting.{IsLasting}
use Rattle.cdcl_trail.proofs.Standing.{place_of}

-- the strong rule gives the weak one
pub guarded_lasting : (clauses : List (List Literal)) (trail : List TrailEntry) (n : ℕ) → IsLasting clauses trail n → IsGuarded clauses trail n
guarded_lasting clauses trail n lasting c k a known watch below is_false =
    let at = lasting c k a known watch below is_false in
    (literal_at trail at.0, at.2, entry_there trail at.0 blank_entry at.1)

-- a place whose level is the last one is lasting once its list was visited
pub lasting_more : (inputs lines clauses : List (List Literal)) (trail : List TrailEntry) (n : ℕ) → IsTrail inputs lines trail → n < length trail
    → ((k : ℕ) → k < length trail → level_at trail k ≤ level_at trail n)
    → IsGuarded clauses trail (n + 1) → IsLasting clauses trail n → IsLasting clauses trail (n + 1)
lasting_more inputs lines clauses trail n is_trail within top guarded lasting c k a known watch below is_false = elim (cases_lt k n) [
  | inl old ↦ lasting c k a known watch old is_false
  | inr high ↦
      let same : k ≡ n = omega arith in
      let told = guarded c k a known watch below is_false in
      let at = place_of trail told.0 told.2 in
      (at.0, at.1, subst (Contains (clause_of clauses c)) (sym at.2) told.1, subst (λ m. level_at trail at.0 ≤ level_at trail m) (sym same) (top at.0 at.1))
]
