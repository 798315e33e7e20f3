-- How deep past operators are nested in a formula, a bounded one as often as it looks back.
use Rattle.std.specs.Prelude.{ℕ, suc, ◌+◌, max}
use Rattle.ltl_syntax.specs.Shape.{Direction, Future, Past, Range, Step, Exactly, Between, Ever, Shape, Negation, Somewhere, Everywhere, shape}
use Rattle.ltl_syntax.specs.Formula.{Formula, Const, Letter, Unary, Binary}
use Rattle.ltl_syntax.specs.declared.node.BinaryOp.TheVariants.{And, Iff, Implies, Or, Release, Since, StrongRelease, Trigger, Until, WeakUntil}

-- how deep an operator of this direction and range makes it
abbrev pub looked_back : Direction → Range → ℕ
looked_back Future r = 0
looked_back Past Step = 1
looked_back Past (Exactly n) = n
looked_back Past (Between m n) = n
looked_back Past Ever = 1

abbrev pub steps_back : Shape → ℕ
steps_back Negation = 0
steps_back (Somewhere d r) = looked_back d r
steps_back (Everywhere d r) = looked_back d r

abbrev pub past_depth : Formula → ℕ
past_depth (Const b) = 0
past_depth (Letter p) = 0
past_depth (Unary op a) = steps_back (shape op) + past_depth a
past_depth (Binary And a b) = max (past_depth a) (past_depth b)
past_depth (Binary Or a b) = max (past_depth a) (past_depth b)
past_depth (Binary Implies a b) = max (past_depth a) (past_depth b)
past_depth (Binary Iff a b) = max (past_depth a) (past_depth b)
past_depth (Binary Until a b) = max (past_depth a) (past_depth b)
past_depth (Binary Release a b) = max (past_depth a) (past_depth b)
past_depth (Binary WeakUntil a b) = max (past_depth a) (past_depth b)
past_depth (Binary StrongRelease a b) = max (past_depth a) (past_depth b)
past_depth (Binary Since a b) = suc (max (past_depth a) (past_depth b))
past_depth (Binary Trigger a b) = suc (max (past_depth a) (past_depth b))
