-- Internal: what the private calls give. No public contract cites this file.
use Rattle.std.specs.Prelude.{◌≡◌, ℕ, suc, ◌+◌, ◌*◌, ◌/◌, ◌%◌, ◌<◌, ◌≤◌, List, [], ◌∷◌, ◌++◌, length, map, get_or, ⊤}
use Rattle.ltl_syntax.specs.declared.node.Kind.{Kind}
use Rattle.ltl_syntax.specs.Formula.{Formula}
use Rattle.ltl_closure.specs.Run.{Sat, Unsat, Undecided}
use Rattle.batch_run.specs.declared.answer.LineOutcome.{LineOutcome}
use Rattle.batch_run.specs.declared.answer.LineOutcome.TheVariants as outcomes
use Rattle.batch_run.specs.declared.answer.LineAnswer.{LineAnswer}
use Rattle.batch_run.specs.declared.lines.Line.{Line}
use Rattle.batch_run.specs.declared.lines.Rest.{Rest}
use Rattle.batch_run.specs.declared.groups.Lane.{Lane}
use Rattle.batch_run.specs.Lines.{FormulaLine, AreFormulaLines}
use Rattle.batch_run.specs.Outcomes.{IsBatchVerdict, IsOutcome, AreAnswered}

-- a text begins with these formula lines, and the others are those of the rest. The numbers are those of the first line of each
abbrev pub Continues : ℕ → List ℕ → ℕ → List ℕ → List FormulaLine → Type 0
Continues number text next rest found = (later : List FormulaLine) → AreFormulaLines next rest later → AreFormulaLines number text (found ++ later)

-- some lines of what is left are passed, among which these are the formula lines
abbrev pub Passes : Rest → Rest → List FormulaLine → Type 0
Passes before after found = Continues before.number before.text.now after.number after.text.now found

-- no line of what is left has so great a number: each has at least one byte
abbrev pub end_of : Rest → ℕ
end_of rest = rest.number + length rest.text.now

-- a line as a formula line
abbrev pub line_of : Line → FormulaLine
line_of l = record { number = l.number; bytes = l.text.now }

abbrev pub lines_of : List Line → List FormulaLine
lines_of lines = map line_of lines

-- the outcomes of one worker's lines: of the line at its own number, and of each that stands as many places behind the one before as there are workers
abbrev pub AreOwn : Kind → ℕ → List Line → ℕ → ℕ → List LineOutcome → Type 0
AreOwn kind asked lines worker workers outcomes = (j : ℕ) (l : Line) (o : LineOutcome) → j < length outcomes
    → IsOutcome kind asked (get_or lines (worker + j * workers) l).text.now (get_or outcomes j o)

pub record AreOutcomes (kind : Kind) (asked : ℕ) (lines : List Line) (worker workers : ℕ) (lane : Lane) : Type 0 where
  pub own : AreOwn kind asked lines worker workers lane.outcomes.items

-- the lane of the line at this place has its outcome
abbrev pub HasOutcome : List Lane → ℕ → LineOutcome → Type 0
HasOutcome lanes at o = (lane : Lane) × (lane ≡ get_or lanes (at % length lanes) lane) × (at / length lanes < length lane.outcomes.items)
    × (o ≡ get_or lane.outcomes.items (at / length lanes) o)

-- the outcomes of lines that stand at this place and behind it, with the numbers of the lines
abbrev pub AreTaken : List Lane → ℕ → List Line → List LineAnswer → Type 0
AreTaken lanes at [] [] = ⊤
AreTaken lanes at (l ∷ lines) (x ∷ answers) = (x.line ≡ l.number) × HasOutcome lanes at x.outcome × AreTaken lanes (suc at) lines answers
AreTaken lanes at lines answers = ⊥

-- each line has an outcome, and these stand behind the answers before
abbrev pub HasOutcomes : List Lane → List Line → List LineAnswer → List LineAnswer → Type 0
HasOutcomes lanes lines before after = (more : List LineAnswer) × (after ≡ before ++ more) × AreTaken lanes 0 lines more

-- a formula has this verdict, and it is no refusal
abbrev pub ShowsVerdict : Formula → Kind → ℕ → LineOutcome → Type 0
ShowsVerdict f kind asked (outcomes.Sat k) = IsBatchVerdict f kind asked (Sat k)
ShowsVerdict f kind asked (outcomes.Unsat k) = IsBatchVerdict f kind asked (Unsat k)
ShowsVerdict f kind asked (outcomes.Undecided k) = IsBatchVerdict f kind asked (Undecided k)
ShowsVerdict f kind asked outcomes.Text = ⊥
ShowsVerdict f kind asked (outcomes.Lexical byte) = ⊥
ShowsVerdict f kind asked (outcomes.Grammar byte) = ⊥
ShowsVerdict f kind asked (outcomes.Nodes count) = ⊥

-- before some lines are decided: those before them are answered, these are the next ones, and nothing is left where there is none. The
-- numbers of lines and of pieces are small
pub record IsUnderWay (kind : Kind) (asked : ℕ) (text : List ℕ) (answers : List LineAnswer) (next : List Line) (number : ℕ) (rest : List ℕ) : Type 0 where
  pub done : List FormulaLine
  pub answered : AreAnswered kind asked done answers
  pub lines : Continues 1 text number rest (done ++ lines_of next)
  pub all : next ≡ [] → rest ≡ []
  pub room : number + length rest ≤ 16777217
  pub pieces : length answers + length next + 1 ≤ number
