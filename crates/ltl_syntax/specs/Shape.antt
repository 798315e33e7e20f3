-- What an operator over one formula looks at, for definitions that do not care which operator it is: some or every position of a range, on one side.
use Rattle.std.specs.Prelude.{ℕ}
use Rattle.ltl_syntax.specs.declared.node.UnaryOp.{UnaryOp}
use Rattle.ltl_syntax.specs.declared.node.UnaryOp.TheVariants as one

-- on from a position, or back from it
pub data Direction : Type 0 where
  Future Past : Direction

-- the positions one step away, exactly n steps, a number of steps between two numbers, and all from the position itself on
pub data Range : Type 0 where
  Step Ever : Range
  Exactly : ℕ → Range
  Between : ℕ → ℕ → Range

-- the operand's negation, or the operand somewhere or everywhere in a range
pub data Shape : Type 0 where
  Negation : Shape
  Somewhere Everywhere : Direction → Range → Shape

abbrev pub shape : UnaryOp → Shape
shape one.Not = Negation
shape one.Next = Somewhere Future Step
shape one.WeakNext = Everywhere Future Step
shape one.Eventually = Somewhere Future Ever
shape one.Always = Everywhere Future Ever
shape one.Yesterday = Somewhere Past Step
shape one.WeakYesterday = Everywhere Past Step
shape one.Once = Somewhere Past Ever
shape one.Historically = Everywhere Past Ever
shape (one.NextTimes n) = Somewhere Future (Exactly n)
shape (one.YesterdayTimes n) = Somewhere Past (Exactly n)
shape (one.EventuallyIn a b) = Somewhere Future (Between a b)
shape (one.AlwaysIn a b) = Everywhere Future (Between a b)
shape (one.OnceIn a b) = Somewhere Past (Between a b)
shape (one.HistoricallyIn a b) = Everywhere Past (Between a b)
