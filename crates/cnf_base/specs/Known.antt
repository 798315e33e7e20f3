-- Which letters a literal or a clause may have: those from 1 to the greatest one.
use Rattle.std.specs.Prelude.{ℕ, ◌≤◌, List, All}
use Rattle.cnf_base.specs.declared.literal.Literal.{Literal}

-- the literal's letter is one of those from 1 to `letters`
pub record IsKnown (letters : ℕ) (l : Literal) : Type 0 where
  pub from_one : 1 ≤ l.letter.0
  pub within : l.letter.0 ≤ letters

-- the letters of each clause are known
abbrev pub AreKnown : ℕ → List (List Literal) → Type 0
AreKnown letters clauses = All (λ clause. All (IsKnown letters) clause) clauses
