-- What trimming gives.
use Rattle.std.specs.Prelude.{◌≡◌, ℕ, List}
use Rattle.derivation.specs.Steps.{DerivationValue}
use Rattle.log_trim.specs.Kept.{Marks, trimmed, new_numbers, IsClosed}
use Rattle.log_trim.specs.Marking.{AreTheNeeded}

-- the new derivation has the needed lines, and the new targets are those of the old ones
pub record IsTrimmed (log : DerivationValue) (targets : List ℕ) (new : DerivationValue) (numbers : List ℕ) (M : Marks) : Type 0 where
  pub marks : AreTheNeeded log targets M
  pub closed : IsClosed log M
  pub is : new ≡ trimmed M log
  pub targets_are : numbers ≡ new_numbers M log.lines targets
