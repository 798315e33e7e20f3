-- The formula part of an input: its refusals, what it is read as, and the answer to an input of two parts.
use Rattle.std.specs.Prelude.{◌≡◌, ◌≤◌, ◌<◌, ℕ, List, length}
use Rattle.ltl_lexer.specs.Tokens.{IsLexicalFault}
use Rattle.ltl_parser.specs.Text.{IsGrammarFault, IsAccepted}
use Rattle.ltl_syntax.specs.Formula.{Formula, nodes_in}
use Rattle.ltl_syntax.specs.Size.{sizes, formula_size}
use Rattle.ltl_syntax.specs.Table.{tree_at}
use Rattle.formula_reading.specs.declared.reading.FormulaFault.{FormulaFault}
use Rattle.formula_reading.specs.declared.reading.FormulaFault.TheVariants as wrong
use Rattle.formula_reading.specs.Reading.{HasManyNodes}
use Rattle.report.specs.declared.fault.Fault.{Fault}
use Rattle.report.specs.declared.fault.Fault.TheVariants as faults
use Rattle.program_input.specs.declared.reading.PartReading.{PartReading}
use Rattle.program_input.specs.declared.reading.PartReading.TheVariants as readings
use Rattle.program_input.specs.Parts.{IsCut, HasNoSeparator}

-- how a part is refused whose text has this fault
abbrev pub refusal_of : FormulaFault → Fault
refusal_of wrong.Long = faults.Text
refusal_of (wrong.Lexical byte) = faults.Lexical byte
refusal_of (wrong.Grammar byte) = faults.Grammar byte
refusal_of (wrong.Nodes count) = faults.Nodes count

-- the part is refused: in the order text, lexical, grammar, nodes
pub data RefusesPart (part : List ℕ) : Fault → Type 0 where
  too_long : 1048576 < length part → RefusesPart part faults.Text
  lexical : (byte : ℕ) → length part ≤ 1048576 → IsLexicalFault part byte → RefusesPart part (faults.Lexical byte)
  grammar : (byte : ℕ) → length part ≤ 1048576 → IsGrammarFault part byte → RefusesPart part (faults.Grammar byte)
  many_nodes : (count : ℕ) → length part ≤ 1048576 → HasManyNodes part count → RefusesPart part (faults.Nodes count)

-- the text is read as a formula, of which the table has the nodes and no others, or refused
abbrev pub IsPartReading : List ℕ → PartReading → Type 0
IsPartReading text (readings.Formula table root) =
    (root < length table.nodes) × IsAccepted text (tree_at table root) × (length table.nodes ≡ nodes_in (tree_at table root))
    × (sizes table.nodes ≡ formula_size (tree_at table root))
IsPartReading text (readings.Refused fault) = RefusesPart text fault

-- the answer to an input of two parts, in a type of answers that has refusals: the input has no separator, the formula part
-- is refused, or the formula is accepted and its answer comes by the second part
pub data IsParted (Answer : Type 0) (refused : Fault → Answer) (Claim : Formula → List ℕ → Answer → Type 0) (bytes : List ℕ) : Answer → Type 0 where
  uncut : HasNoSeparator bytes → IsParted Answer refused Claim bytes (refused faults.NoSeparator)
  unread : (part second : List ℕ) (fault : Fault) → IsCut bytes part second → RefusesPart part fault → IsParted Answer refused Claim bytes (refused fault)
  accepted : (part second : List ℕ) (f : Formula) (answer : Answer) → IsCut bytes part second → IsAccepted part f → Claim f second answer
      → IsParted Answer refused Claim bytes answer
