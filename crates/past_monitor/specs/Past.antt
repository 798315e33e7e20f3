-- The formulas that do not look ahead.
use Rattle.std.specs.Prelude.{⊤}
use Rattle.ltl_syntax.specs.declared.node.UnaryOp.{UnaryOp}
use Rattle.ltl_syntax.specs.declared.node.BinaryOp.{BinaryOp}
use Rattle.ltl_syntax.specs.declared.node.BinaryOp.TheVariants as two
use Rattle.ltl_syntax.specs.Shape.{Direction, Future, Past, Shape, Negation, Somewhere, Everywhere, shape}
use Rattle.ltl_syntax.specs.Formula.{Formula, Const, Letter, Unary, Binary}

abbrev pub IsBackward : Direction → Type 0
IsBackward Future = ⊥
IsBackward Past = ⊤

abbrev pub LooksBack : Shape → Type 0
LooksBack Negation = ⊤
LooksBack (Somewhere d r) = IsBackward d
LooksBack (Everywhere d r) = IsBackward d

-- an operator of one formula that does not look ahead
abbrev pub IsPast₁ : UnaryOp → Type 0
IsPast₁ op = LooksBack (shape op)

-- an operator of two formulas that does not look ahead
abbrev pub IsPast₂ : BinaryOp → Type 0
IsPast₂ two.And = ⊤
IsPast₂ two.Or = ⊤
IsPast₂ two.Implies = ⊤
IsPast₂ two.Iff = ⊤
IsPast₂ two.Until = ⊥
IsPast₂ two.Release = ⊥
IsPast₂ two.WeakUntil = ⊥
IsPast₂ two.StrongRelease = ⊥
IsPast₂ two.Since = ⊤
IsPast₂ two.Trigger = ⊤

-- none of the formula's operators looks ahead
abbrev pub IsPast : Formula → Type 0
IsPast (Const b) = ⊤
IsPast (Letter p) = ⊤
IsPast (Unary op a) = IsPast₁ op × IsPast a
IsPast (Binary op a b) = IsPast₂ op × IsPast a × IsPast b
