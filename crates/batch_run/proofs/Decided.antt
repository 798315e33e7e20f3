-- From the reading of a line and the depths of its tableau to what is said of the line.
use Rattle.std.proofs.Common.{ℕ, ◌≤◌, List, Result, Ok, Err, IfOk, arith}
use Rattle.ltl_syntax.specs.declared.node.Kind.{Kind}
use Rattle.ltl_syntax.specs.declared.node.Kind.TheVariants as kinds
use Rattle.ltl_syntax.specs.Formula.{Formula}
use Rattle.ltl_parser.specs.Text.{IsAccepted}
use Rattle.formula_reading.specs.declared.reading.FormulaFault.{FormulaFault}
use Rattle.formula_reading.specs.declared.reading.FormulaFault.TheVariants as wrong
use Rattle.formula_reading.specs.Reading.{HasFormulaFault}
use Rattle.enc_layout.specs.Letters.{Counts, letters_through}
use Rattle.batch_run.specs.declared.answer.LineOutcome.{LineOutcome}
use Rattle.batch_run.specs.declared.answer.LineOutcome.TheVariants as outcomes
use Rattle.batch_run.specs.Outcomes.{IsOutcome, refusal_of}
use Rattle.batch_run.specs.Grouping.{ShowsVerdict}

-- a fault of a line is what is said of the line
pub outcome_of_fault : (kind : Kind) (asked : ℕ) (line : List ℕ) (fault : FormulaFault) → HasFormulaFault line fault
    → IsOutcome kind asked line (refusal_of fault)
outcome_of_fault kind asked line wrong.Long h = h
outcome_of_fault kind asked line other h = h

-- the verdict on the formula of a line is what is said of the line
pub outcome_of_verdict : (line : List ℕ) (f : Formula) (kind : Kind) (asked : ℕ) (o : LineOutcome) → IsAccepted line f → ShowsVerdict f kind asked o
    → IsOutcome kind asked line o
outcome_of_verdict line f kind asked (outcomes.Sat k) read h = (f, read, h)
outcome_of_verdict line f kind asked (outcomes.Unsat k) read h = (f, read, h)
outcome_of_verdict line f kind asked (outcomes.Undecided k) read h = (f, read, h)
outcome_of_verdict line f kind asked other read h = absurd h

pub shown_outcome : {E : Type 0} (line : List ℕ) (f : Formula) (kind : Kind) (asked : ℕ) (r : Result LineOutcome E) → IsAccepted line f
    → IfOk r (ShowsVerdict f kind asked) → IfOk r (IsOutcome kind asked line)
shown_outcome line f kind asked (Ok o) read h = outcome_of_verdict line f kind asked o read h
shown_outcome line f kind asked (Err e) read h = tt

-- the letters of the first state are few enough
few_at_first : (kind : Kind) (c : Counts) → c.entries ≤ 98306 → c.eventualities ≤ 98306 → letters_through kind c 0 ≤ 1048576
few_at_first kinds.Infinite c few few' = omega (arith, few, few')
few_at_first kinds.Finite c few few' = omega (arith, few, few')
