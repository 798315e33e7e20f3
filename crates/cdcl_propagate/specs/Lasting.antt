-- The watch rule with levels: what a way back keeps.
use Rattle.std.specs.Prelude.{◌≡◌, ℕ, ◌<◌, ◌≤◌, List, length, Contains}
use Rattle.cnf_base.specs.declared.literal.Literal.{Literal}
use Rattle.cnf_base.specs.Literal.{opposite}
use Rattle.cdcl_trail.specs.Trail.{literal_at, place_level}
use Rattle.cdcl_trail.specs.declared.assigned.TrailEntry.{TrailEntry}
use Rattle.cdcl_watches.specs.Watching.{IsWatch, clause_of}

-- a literal of the clause is true, and stands on no higher level than this
abbrev pub IsTrueBy : List TrailEntry → ℕ → List Literal → Type 0
IsTrueBy trail level clause = (j : ℕ) × (j < length trail) × Contains clause (literal_at trail j) × (place_level trail j ≤ level)

-- where a clause watches a literal that is false from a place below `lasting` on, it has one that is true on no higher level
abbrev pub IsLasting : List (List Literal) → List TrailEntry → ℕ → Type 0
IsLasting clauses trail lasting = (c k : ℕ) (a : Literal) → c < length clauses → IsWatch (clause_of clauses c) a → k < lasting → literal_at trail k ≡ opposite a
    → IsTrueBy trail (place_level trail k) (clause_of clauses c)
