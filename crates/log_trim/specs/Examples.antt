-- A few lines of which the second and the fourth are kept, written out by hand.
use Rattle.std.specs.Prelude.{◌≡◌, Bool, true, false, List, [], ◌∷◌}
use Rattle.cnf_base.specs.declared.literal.Hint.TheVariants.{Clause, Line}
use Rattle.cnf_base.specs.Worked.{plus, minus}
use Rattle.derivation.specs.Steps.{DerivationValue}
use Rattle.log_trim.specs.Kept.{trimmed, new_numbers}
use Rattle.log_trim.specs.Marking.{marked}

abbrev pub four : DerivationValue
four = record {
  lines = (plus 1 ∷ []) ∷ (plus 2 ∷ []) ∷ (plus 3 ∷ []) ∷ (minus 4 ∷ []) ∷ [];
  hints = (Clause 1 ∷ []) ∷ (Clause 2 ∷ []) ∷ (Line 1 ∷ []) ∷ (Line 2 ∷ Clause 4 ∷ []) ∷ [];
}

abbrev pub flags : List Bool
flags = false ∷ true ∷ false ∷ true ∷ []

pub record WorkedTrimming : Type 0 where
  -- hints follow the lines that they name to their new numbers, and clauses keep theirs
  pub lines : trimmed (marked flags) four ≡ record { lines = (plus 2 ∷ []) ∷ (minus 4 ∷ []) ∷ []; hints = (Clause 2 ∷ []) ∷ (Line 1 ∷ Clause 4 ∷ []) ∷ [] }
  pub numbers : new_numbers (marked flags) four.lines (4 ∷ 2 ∷ []) ≡ 2 ∷ 1 ∷ []
