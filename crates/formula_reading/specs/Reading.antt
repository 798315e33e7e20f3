-- What a text reads as: a formula within the limits, or the first of its faults.
use Rattle.std.specs.Prelude.{◌≡◌, ◌≤◌, ◌<◌, ℕ, List, length}
use Rattle.ltl_syntax.specs.Formula.{Formula, nodes_in}
use Rattle.ltl_syntax.specs.Size.{sizes, formula_size}
use Rattle.ltl_syntax.specs.Table.{tree_at}
use Rattle.ltl_lexer.specs.Tokens.{IsLexicalFault}
use Rattle.ltl_parser.specs.Text.{ReadsText, IsGrammarFault, IsAccepted}
use Rattle.formula_reading.specs.declared.reading.FormulaFault.{FormulaFault}
use Rattle.formula_reading.specs.declared.reading.FormulaFault.TheVariants as wrong
use Rattle.formula_reading.specs.declared.reading.Reading.{Reading}
use Rattle.formula_reading.specs.declared.reading.Reading.TheVariants as readings

-- the text is within the limit on bytes
abbrev pub IsShort : List ℕ → Type 0
IsShort text = length text ≤ 1048576

-- the text reads as a formula whose nodes have these sizes in all, which are too many
abbrev pub HasManyNodes : List ℕ → ℕ → Type 0
HasManyNodes text count = (f : Formula) × ReadsText text f × (count ≡ formula_size f) × (16384 < count)

-- the text has this fault, and none of those that are tried before
abbrev pub HasFormulaFault : List ℕ → FormulaFault → Type 0
HasFormulaFault text wrong.Long = 1048576 < length text
HasFormulaFault text (wrong.Lexical byte) = IsShort text × IsLexicalFault text byte
HasFormulaFault text (wrong.Grammar byte) = IsShort text × IsGrammarFault text byte
HasFormulaFault text (wrong.Nodes count) = IsShort text × HasManyNodes text count

-- the text is read as an accepted formula, of which the table has the nodes and no others, or it has a fault
abbrev pub IsFormulaReading : List ℕ → Reading → Type 0
IsFormulaReading text (readings.Formula table root) =
    (root < length table.nodes) × IsAccepted text (tree_at table root) × (length table.nodes ≡ nodes_in (tree_at table root))
    × (sizes table.nodes ≡ formula_size (tree_at table root))
IsFormulaReading text (readings.Refused fault) = HasFormulaFault text fault
