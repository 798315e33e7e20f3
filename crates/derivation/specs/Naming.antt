-- Clauses that are put in under the numbers that they have in a list, and hints by these numbers.
use Rattle.std.specs.Prelude.{◌≡◌, ℕ, ◌-◌, List, length, map, slice_get, slice_index_or, Some}
use Rattle.cnf_base.specs.declared.literal.Literal.{Literal}
use Rattle.cnf_base.specs.declared.literal.Hint.{Hint}
use Rattle.cnf_base.specs.declared.literal.Hint.TheVariants.{Clause, Line}
use Rattle.cnf_base.specs.Step.{numbered}
use Rattle.clause_log.specs.LogValue.{LogValue}
use Rattle.derivation.specs.Steps.{DerivationValue}

-- each input is the clause of its name in the list; names run from 1
pub record AreNamed (list inputs : List (List Literal)) (names : List ℕ) : Type 0 where
  pub count : length names ≡ length inputs
  pub each : (i : ℕ) (clause : List Literal) → slice_get inputs i ≡ Some clause → numbered list (slice_index_or names i 0) ≡ Some clause

-- the hint names what it named, a clause by its name in the list
abbrev pub renamed : List ℕ → Hint → Hint
renamed names (Clause number) = Clause (slice_index_or names (number - 1) 0)
renamed names (Line number) = Line number

-- the lines of a log, with hints that name clauses of the list
abbrev pub derived : LogValue → List ℕ → DerivationValue
derived log names = record { lines = log.lines; hints = map (map (renamed names)) log.hints }
