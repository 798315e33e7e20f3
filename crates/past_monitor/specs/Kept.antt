-- Which values of a formula are kept after a list of states, so that its value at the next one can be told.
use Rattle.std.specs.Prelude.{◌≡◌, ℕ, suc, ◌-◌, ◌<◌, min, Bool, false, List, length, slice_index_or, ◌↔◌, IsTrue}
use Rattle.ltl_syntax.specs.declared.node.UnaryOp.{UnaryOp}
use Rattle.ltl_syntax.specs.declared.node.BinaryOp.{BinaryOp}
use Rattle.ltl_syntax.specs.declared.node.BinaryOp.TheVariants as two
use Rattle.ltl_syntax.specs.Shape.{Direction, Future, Past, Range, Step, Exactly, Between, Ever, Shape, Negation, Somewhere, Everywhere, shape}
use Rattle.ltl_syntax.specs.Formula.{Formula, Const, Letter, Unary, Binary}
use Rattle.ltl_word.specs.declared.trace.Trace.TheVariants.{Finite}
use Rattle.ltl_word.specs.Trace.{Names}
use Rattle.ltl_word.specs.Holds.{Holds}
use Rattle.ltl_word.specs.Depth.{steps_back}

-- how many values are kept for an operator: as many as it looks back, and one for an operator that looks back without end
abbrev pub reach₁ : UnaryOp → ℕ
reach₁ op = steps_back (shape op)

abbrev pub reach₂ : BinaryOp → ℕ
reach₂ two.And = 0
reach₂ two.Or = 0
reach₂ two.Implies = 0
reach₂ two.Iff = 0
reach₂ two.Until = 0
reach₂ two.Release = 0
reach₂ two.WeakUntil = 0
reach₂ two.StrongRelease = 0
reach₂ two.Since = 1
reach₂ two.Trigger = 1

abbrev pub reach : Formula → ℕ
reach (Const b) = 0
reach (Letter p) = 0
reach (Unary op a) = reach₁ op
reach (Binary op a b) = reach₂ op

-- the operand where an operator looks back a number of positions, else the operator's own
abbrev pub kept_in : {A : Type 0} → Direction → Range → A → A → A
kept_in Future r a own = own
kept_in Past Step a own = a
kept_in Past (Exactly n) a own = a
kept_in Past (Between m n) a own = a
kept_in Past Ever a own = own

abbrev pub kept_by : {A : Type 0} → Shape → A → A → A
kept_by Negation a own = own
kept_by (Somewhere d r) a own = kept_in d r a own
kept_by (Everywhere d r) a own = kept_in d r a own

-- of which formula they are
abbrev pub watched₁ : UnaryOp → Formula → Formula
watched₁ op a = kept_by (shape op) a (Unary op a)

abbrev pub watched : Formula → Formula
watched (Const b) = Const b
watched (Letter p) = Letter p
watched (Unary op a) = watched₁ op a
watched (Binary op a b) = Binary op a b

-- the values of f at the last n positions of t, the last first, or at all of them where t is shorter
pub record AreLast (t : List Names) (f : Formula) (n : ℕ) (values : List Bool) : Type 0 where
  pub count : length values ≡ min n (length t)
  pub each : (j : ℕ) → j < length values → IsTrue (slice_index_or values j false) ↔ Holds (Finite t) f (length t - suc j)

-- the values that are kept for f after the states t
abbrev pub AreKept : List Names → Formula → List Bool → Type 0
AreKept t f values = AreLast t (watched f) (reach f) values
