-- What the laws of batches say.
use Rattle.std.specs.Prelude.{◌≡◌, ◌<◌, ℕ, List}
use Rattle.ltl_syntax.specs.declared.node.Kind.{Kind}
use Rattle.ltl_syntax.specs.Formula.{Formula}
use Rattle.ltl_parser.specs.Text.{IsAccepted}
use Rattle.ltl_closure.specs.Run.{bound}
use Rattle.ltl_run.specs.Laws.{IsSatisfiable}
use Rattle.batch_run.specs.declared.answer.LineOutcome.TheVariants as outcomes
use Rattle.batch_run.specs.declared.answer.LineAnswer.{LineAnswer}
use Rattle.batch_run.specs.Lines.{AreLines}
use Rattle.batch_run.specs.Outcomes.{IsOutcome, AreAnswers}

-- a text has one list of lines
abbrev pub LinesAreOne : Type 0
LinesAreOne = (text : List ℕ) (lines others : List (List ℕ)) → AreLines text lines → AreLines text others → lines ≡ others

-- a text, a kind and a depth have one list of answers
abbrev pub AnswersAreOne : Type 0
AnswersAreOne = (kind : Kind) (asked : ℕ) (text : List ℕ) (answers others : List LineAnswer)
    → AreAnswers kind asked text answers → AreAnswers kind asked text others → answers ≡ others

-- a line that is answered SAT reads as a formula that a trace of the kind satisfies
abbrev pub SatHasTrace : Type 0
SatHasTrace =
    (kind : Kind) (asked : ℕ) (line : List ℕ) (k : ℕ) → IsOutcome kind asked line (outcomes.Sat k) → (f : Formula) × IsAccepted line f × IsSatisfiable f kind

-- one that is answered UNSAT reads as a formula that none does
abbrev pub UnsatHasNone : Type 0
UnsatHasNone = (kind : Kind) (asked : ℕ) (line : List ℕ) (k : ℕ) → IsOutcome kind asked line (outcomes.Unsat k) → (f : Formula) × IsAccepted line f
    × ¬ IsSatisfiable f kind

-- one that is answered UNDECIDED reads as a formula whose bound is above the depth
abbrev pub UndecidedIsBelow : Type 0
UndecidedIsBelow = (kind : Kind) (asked : ℕ) (line : List ℕ) (d : ℕ) → IsOutcome kind asked line (outcomes.Undecided d) → (f : Formula) × IsAccepted line f
    × (d < bound f kind)
