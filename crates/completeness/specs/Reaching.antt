-- Hinted steps are complete: what follows from a list of clauses is a line of some steps over it.
use Rattle.std.specs.Prelude.{◌≡◌, ℕ, ◌≤◌, Bool, true, List, All, Some}
use Rattle.cnf_base.specs.declared.literal.Literal.{Literal}
use Rattle.cnf_base.specs.Step.{numbered, HasNoPair}
use Rattle.cnf_base.specs.Known.{IsKnown, AreKnown}
use Rattle.cnf_base.specs.Meaning.{Satisfies, clause_value}
use Rattle.clause_log.specs.LogValue.{greatest_u32}
use Rattle.derivation.specs.Steps.{DerivationValue, AreSteps}

-- the clause is true wherever the list is
abbrev pub Follows : List (List Literal) → List Literal → Type 0
Follows list clause = (v : ℕ → Bool) → Satisfies v list → clause_value v clause ≡ true

-- some lines go on from these, are steps over the list and have no letter above the greatest one, and the clause is among them
pub record Reaches (list : List (List Literal)) (greatest : ℕ) (d : DerivationValue) (clause : List Literal) : Type 0 where
  pub new : DerivationValue
  pub steps : AreSteps list new
  pub letters : AreKnown greatest new.lines
  pub keeps : (number : ℕ) (line : List Literal) → numbered d.lines number ≡ Some line → numbered new.lines number ≡ Some line
  pub number : ℕ
  pub is : numbered new.lines number ≡ Some clause

-- a clause of known letters that follows from the list, and has no literal beside its opposite, is reached from any steps
abbrev pub StepsAreComplete : Type 0
StepsAreComplete = (list : List (List Literal)) (greatest : ℕ) (d : DerivationValue) (clause : List Literal) → greatest ≤ greatest_u32
    → AreKnown greatest list → AreSteps list d → AreKnown greatest d.lines → All (IsKnown greatest) clause → HasNoPair clause → Follows list clause
    → Reaches list greatest d clause
