-- Formulas whose letters are told apart by their names.
use Rattle.std.specs.Prelude.{◌<◌, ◌^◌}
use Rattle.ltl_syntax.specs.declared.node.Node.{Node}
use Rattle.ltl_syntax.specs.declared.node.Node.TheVariants as nodes
use Rattle.ltl_syntax.specs.Formula.{Atom, Name, Fresh, Formula}
use Rattle.ltl_syntax.specs.Table.{IsPlain}
use Rattle.ltl_word.specs.Propositional.{HasLetter}

-- a name does not begin with an opening brace, as the name of each fresh letter does, and a fresh letter's number fits a Rust number
abbrev pub IsPlainLetter : Atom → Type 0
IsPlainLetter (Name bytes) = IsPlain bytes
IsPlainLetter (Fresh n) = n < 2 ^ 32

-- so is each letter of the formula
abbrev pub HasPlainNames : Formula → Type 0
HasPlainNames f = (p : Atom) → HasLetter f p → IsPlainLetter p

-- the number of a fresh letter's node fits a Rust number
abbrev pub IsSmallNode : Node → Type 0
IsSmallNode (nodes.Const b) = Unit {0}
IsSmallNode (nodes.Letter n) = Unit {0}
IsSmallNode (nodes.Fresh n) = n < 2 ^ 32
IsSmallNode (nodes.Unary op a) = Unit {0}
IsSmallNode (nodes.Binary op a b) = Unit {0}
