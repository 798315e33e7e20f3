-- Past operators are nested no deeper in a formula than in one that it is an operand of, so no deeper in a node than in a root that it is under.
use Rattle.std.proofs.Common.{◌≤◌, max, ℕ, arith}
use Rattle.ltl_syntax.specs.Formula.{Formula, Unary, Binary}
use Rattle.ltl_syntax.specs.declared.node.UnaryOp.{UnaryOp}
use Rattle.ltl_syntax.specs.declared.node.BinaryOp.{BinaryOp}
use Rattle.ltl_syntax.specs.declared.node.BinaryOp.TheVariants.{And}
use Rattle.ltl_syntax.specs.Table.{Table, tree_at, IsTable}
use Rattle.ltl_syntax.specs.Under.{IsUnder}
use Rattle.ltl_syntax.proofs.Under.{under_has}
use Rattle.ltl_word.specs.Depth.{past_depth}

deeper_one : (op : UnaryOp) (f : Formula) → past_depth f ≤ past_depth (Unary op f)
deeper_one op f = omega arith

deeper_two : (op : BinaryOp) (f g : Formula) → max (past_depth f) (past_depth g) ≤ past_depth (Binary op f g)
deeper_two And f g = omega arith
deeper_two op f g = omega arith

pub under_shallow : (t : Table) → IsTable t.nodes t.names → (root number : ℕ) → IsUnder t root number
    → past_depth (tree_at t number) ≤ past_depth (tree_at t root)
under_shallow t is root number under =
    under_has t is (λ f. past_depth f ≤ past_depth (tree_at t root)) (λ op f deep. omega (arith, deep, deeper_one op f))
    (λ op f g deep. (omega (arith, deep, deeper_two op f g), omega (arith, deep, deeper_two op f g))) root number (omega arith) under
