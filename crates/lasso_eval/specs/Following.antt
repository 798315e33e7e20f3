-- How the row of an operator follows from the rows of its operands.
use Rattle.std.specs.Prelude.{◌≡◌, ℕ, ◌≤◌, Bool, List}
use Rattle.ltl_syntax.specs.declared.node.UnaryOp.{UnaryOp}
use Rattle.ltl_syntax.specs.declared.node.BinaryOp.{BinaryOp}
use Rattle.ltl_syntax.specs.Formula.{Formula, Unary, Binary}
use Rattle.ltl_word.specs.declared.trace.Trace.{Trace}
use Rattle.ltl_word.specs.Trace.{IsTrace}
use Rattle.ltl_word.specs.Depth.{past_depth}
use Rattle.lasso_eval.specs.Cells.{loop_start}
use Rattle.lasso_eval.specs.Rows.{Tells}

-- where the row of a formula is right, this row of the operator on it is
abbrev pub FollowsOne : UnaryOp → List Bool → ℕ → List Bool → Type 0
FollowsOne op a start row = (t : Trace) (depth : ℕ) (f : Formula) → IsTrace t → start ≡ loop_start t depth → past_depth (Unary op f) ≤ depth
    → Tells t depth f a → Tells t depth (Unary op f) row

-- where the rows of two formulas are right, this row of the operator on them is
abbrev pub FollowsTwo : BinaryOp → List Bool → List Bool → ℕ → List Bool → Type 0
FollowsTwo op a b start row = (t : Trace) (depth : ℕ) (f g : Formula) → IsTrace t → start ≡ loop_start t depth → past_depth (Binary op f g) ≤ depth
    → Tells t depth f a → Tells t depth g b → Tells t depth (Binary op f g) row
