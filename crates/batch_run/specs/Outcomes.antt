-- What is said of each formula line.
use Rattle.std.specs.Prelude.{◌≡◌, ℕ, ◌≤◌, List, [], ◌∷◌, ⊤}
use Rattle.ltl_syntax.specs.declared.node.Kind.{Kind}
use Rattle.ltl_syntax.specs.Formula.{Formula}
use Rattle.ltl_parser.specs.Text.{IsAccepted}
use Rattle.formula_reading.specs.declared.reading.FormulaFault.{FormulaFault}
use Rattle.formula_reading.specs.declared.reading.FormulaFault.TheVariants as wrong
use Rattle.formula_reading.specs.Reading.{HasFormulaFault}
use Rattle.ltl_closure.specs.Run.{Verdict, IsVerdict, Sat, Unsat, Undecided}
use Rattle.enc_layout.specs.Letters.{letters_through}
use Rattle.enc_layout.specs.Clauses.{counts}
use Rattle.batch_run.specs.declared.answer.LineOutcome.{LineOutcome}
use Rattle.batch_run.specs.declared.answer.LineOutcome.TheVariants as outcomes
use Rattle.batch_run.specs.declared.answer.LineAnswer.{LineAnswer}
use Rattle.batch_run.specs.Lines.{FormulaLine, AreFormulaLines}

-- the letters of the formula's clauses through a depth are few enough for a batch
abbrev pub HasFewLetters : Formula → Kind → ℕ → Type 0
HasFewLetters f kind d = letters_through kind (counts f) d ≤ 1048576

-- the batch limit: the greatest depth up to the one that was asked for whose letters are few enough
pub record IsBatchLimit (f : Formula) (kind : Kind) (asked limit : ℕ) : Type 0 where
  pub below : limit ≤ asked
  pub fits : HasFewLetters f kind limit
  pub greatest : (d : ℕ) → d ≤ asked → HasFewLetters f kind d → d ≤ limit

-- the tableau's verdict on a formula at the batch limit
pub record IsBatchVerdict (f : Formula) (kind : Kind) (asked : ℕ) (verdict : Verdict) : Type 0 where
  pub limit : ℕ
  pub limited : IsBatchLimit f kind asked limit
  pub decided : IsVerdict f kind limit verdict

-- the line reads as a formula that is within its limits, and this is the verdict on it
abbrev pub IsDecided : Kind → ℕ → List ℕ → Verdict → Type 0
IsDecided kind asked line verdict = (f : Formula) × IsAccepted line f × IsBatchVerdict f kind asked verdict

-- what is said of a line with this fault
abbrev pub refusal_of : FormulaFault → LineOutcome
refusal_of wrong.Long = outcomes.Text
refusal_of (wrong.Lexical byte) = outcomes.Lexical byte
refusal_of (wrong.Grammar byte) = outcomes.Grammar byte
refusal_of (wrong.Nodes count) = outcomes.Nodes count

-- what is said of a line: it is too long; it has a lexical fault, or a grammar fault, at a byte of its own; its formula has too
-- many nodes; or the verdict
abbrev pub IsOutcome : Kind → ℕ → List ℕ → LineOutcome → Type 0
IsOutcome kind asked line outcomes.Text = HasFormulaFault line wrong.Long
IsOutcome kind asked line (outcomes.Lexical byte) = HasFormulaFault line (wrong.Lexical byte)
IsOutcome kind asked line (outcomes.Grammar byte) = HasFormulaFault line (wrong.Grammar byte)
IsOutcome kind asked line (outcomes.Nodes count) = HasFormulaFault line (wrong.Nodes count)
IsOutcome kind asked line (outcomes.Sat k) = IsDecided kind asked line (Sat k)
IsOutcome kind asked line (outcomes.Unsat k) = IsDecided kind asked line (Unsat k)
IsOutcome kind asked line (outcomes.Undecided k) = IsDecided kind asked line (Undecided k)

-- one answer for each of these formula lines, in their order
abbrev pub AreAnswered : Kind → ℕ → List FormulaLine → List LineAnswer → Type 0
AreAnswered kind asked [] [] = ⊤
AreAnswered kind asked (l ∷ lines) (a ∷ answers) = (a.line ≡ l.number) × IsOutcome kind asked l.bytes a.outcome × AreAnswered kind asked lines answers
AreAnswered kind asked lines answers = ⊥

-- the answers to a text: those to its formula lines, whose numbers count all lines from 1
pub record AreAnswers (kind : Kind) (asked : ℕ) (text : List ℕ) (answers : List LineAnswer) : Type 0 where
  pub lines : List FormulaLine
  pub found : AreFormulaLines 1 text lines
  pub answered : AreAnswered kind asked lines answers
