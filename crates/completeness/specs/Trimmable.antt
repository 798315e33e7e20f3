-- Lines that are steps can be trimmed to just those that some targets stand on.
use Rattle.std.specs.Prelude.{ℕ, ◌≤◌, List, length}
use Rattle.cnf_base.specs.declared.literal.Literal.{Literal}
use Rattle.derivation.specs.Steps.{DerivationValue, AreSteps}
use Rattle.log_trim.specs.Kept.{Marks}
use Rattle.log_trim.specs.Trimmed.{IsTrimmed}

-- steps over a list can be trimmed to any targets, and are no more lines then
abbrev pub TrimmedIsThere : Type 0
TrimmedIsThere = (list : List (List Literal)) (log : DerivationValue) (targets : List ℕ) → AreSteps list log
    → (new : DerivationValue) × (numbers : List ℕ) × (M : Marks) × IsTrimmed log targets new numbers M × (length new.lines ≤ length log.lines)
