-- The text of a formula. Reading it gives the formula again, where no letter in it is fresh.
use Rattle.std.specs.Prelude.{ℕ, List, ◌++◌, Bool, true, false, codes}
use Rattle.std.specs.Fmt.{decimal}
use Rattle.ltl_syntax.specs.declared.node.UnaryOp.{UnaryOp}
use Rattle.ltl_syntax.specs.declared.node.BinaryOp.{BinaryOp}
use Rattle.ltl_syntax.specs.declared.node.UnaryOp.TheVariants as one
use Rattle.ltl_syntax.specs.declared.node.BinaryOp.TheVariants as two
use Rattle.ltl_syntax.specs.Formula.{Name, Fresh, Formula, Const, Letter, Unary, Binary}

-- a number, or two, stand between brackets behind the operator's letter
abbrev pub times_text : List ℕ → ℕ → List ℕ
times_text word n = word ++ codes "[" ++ decimal n ++ codes "] "

abbrev pub range_text : List ℕ → ℕ → ℕ → List ℕ
range_text word a b = word ++ codes "[" ++ decimal a ++ codes "," ++ decimal b ++ codes "] "

-- an operator over one formula is a sign, or a word and a space
abbrev pub unary_text : UnaryOp → List ℕ
unary_text one.Not = codes "!"
unary_text one.Next = codes "X "
unary_text one.WeakNext = codes "wX "
unary_text one.Eventually = codes "F "
unary_text one.Always = codes "G "
unary_text one.Yesterday = codes "Y "
unary_text one.WeakYesterday = codes "Z "
unary_text one.Once = codes "O "
unary_text one.Historically = codes "H "
unary_text (one.NextTimes n) = times_text (codes "X") n
unary_text (one.YesterdayTimes n) = times_text (codes "Y") n
unary_text (one.EventuallyIn a b) = range_text (codes "F") a b
unary_text (one.AlwaysIn a b) = range_text (codes "G") a b
unary_text (one.OnceIn a b) = range_text (codes "O") a b
unary_text (one.HistoricallyIn a b) = range_text (codes "H") a b

-- an operator over two formulas stands between two spaces
abbrev pub binary_text : BinaryOp → List ℕ
binary_text two.And = codes " & "
binary_text two.Or = codes " | "
binary_text two.Implies = codes " -> "
binary_text two.Iff = codes " <-> "
binary_text two.Until = codes " U "
binary_text two.Release = codes " R "
binary_text two.WeakUntil = codes " W "
binary_text two.StrongRelease = codes " M "
binary_text two.Since = codes " S "
binary_text two.Trigger = codes " T "

-- a constant is its word
abbrev pub constant_text : Bool → List ℕ
constant_text true = codes "true"
constant_text false = codes "false"

-- a letter is its name, a fresh one its number between braces, and what an operator joins stands between parentheses
abbrev pub text_of : Formula → List ℕ
text_of (Const b) = constant_text b
text_of (Letter (Name name)) = name
text_of (Letter (Fresh n)) = codes "{" ++ decimal n ++ codes "}"
text_of (Unary op a) = unary_text op ++ text_of a
text_of (Binary op a b) = codes "(" ++ text_of a ++ binary_text op ++ text_of b ++ codes ")"
