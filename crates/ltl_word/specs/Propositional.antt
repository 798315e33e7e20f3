-- Formulas without temporal operators, and the letters of a formula.
use Rattle.std.specs.Prelude.{◌≡◌, ⊤, ◌⊎◌}
use Rattle.ltl_syntax.specs.Shape.{Shape, Negation, Somewhere, Everywhere, shape}
use Rattle.ltl_syntax.specs.Formula.{Atom, Formula, Const, Letter, Unary, Binary}
use Rattle.ltl_syntax.specs.declared.node.UnaryOp.{UnaryOp}
use Rattle.ltl_syntax.specs.declared.node.BinaryOp.{BinaryOp}
use Rattle.ltl_syntax.specs.declared.node.BinaryOp.TheVariants.{And, Iff, Implies, Or, Release, Since, StrongRelease, Trigger, Until, WeakUntil}

-- the operators that speak of one position only
abbrev pub IsHere : Shape → Type 0
IsHere Negation = ⊤
IsHere (Somewhere d r) = ⊥
IsHere (Everywhere d r) = ⊥

abbrev pub IsLocal₁ : UnaryOp → Type 0
IsLocal₁ op = IsHere (shape op)

abbrev pub IsLocal₂ : BinaryOp → Type 0
IsLocal₂ And = ⊤
IsLocal₂ Or = ⊤
IsLocal₂ Implies = ⊤
IsLocal₂ Iff = ⊤
IsLocal₂ Until = ⊥
IsLocal₂ Release = ⊥
IsLocal₂ WeakUntil = ⊥
IsLocal₂ StrongRelease = ⊥
IsLocal₂ Since = ⊥
IsLocal₂ Trigger = ⊥

-- no operator of the formula is temporal
abbrev pub IsPropositional : Formula → Type 0
IsPropositional (Const b) = ⊤
IsPropositional (Letter p) = ⊤
IsPropositional (Unary op a) = IsLocal₁ op × IsPropositional a
IsPropositional (Binary op a b) = IsLocal₂ op × IsPropositional a × IsPropositional b

-- the letter stands in the formula
abbrev pub HasLetter : Formula → Atom → Type 0
HasLetter (Const b) p = ⊥
HasLetter (Letter q) p = q ≡ p
HasLetter (Unary op a) p = HasLetter a p
HasLetter (Binary op a b) p = HasLetter a p ⊎ HasLetter b p
