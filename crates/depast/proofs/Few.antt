-- A formula takes no more names than its size.
use Rattle.std.proofs.Common.{◌≤◌, arith}
use Rattle.ltl_syntax.specs.declared.node.UnaryOp.{UnaryOp}
use Rattle.ltl_syntax.specs.declared.node.BinaryOp.{BinaryOp}
use Rattle.ltl_syntax.specs.declared.node.UnaryOp.TheVariants.{Not}
use Rattle.ltl_syntax.specs.declared.node.BinaryOp.TheVariants.{And}
use Rattle.ltl_syntax.specs.Formula.{Formula, Const, Letter, Unary, Binary}
use Rattle.ltl_syntax.specs.Size.{operator_size, formula_size}
use Rattle.depast.specs.Depast.{taken, taken₁, taken₂}
use Rattle.depast.specs.Laws.{HasFewNames}

taken₁_few : (op : UnaryOp) → taken₁ op ≤ operator_size op
taken₁_few Not = omega arith
taken₁_few op = omega arith

taken₂_few : (op : BinaryOp) → taken₂ op ≤ 1
taken₂_few And = omega arith
taken₂_few op = omega arith

pub taken_few : (f : Formula) → taken f ≤ formula_size f
taken_few (Const b) = omega arith
taken_few (Letter p) = omega arith
taken_few (Unary op a) = omega (arith, taken_few a, taken₁_few op)
taken_few (Binary op a b) = omega (arith, taken_few a, taken_few b, taken₂_few op)

pub few_names : (f : Formula) → formula_size f ≤ 16384 → HasFewNames f
few_names f h = omega (arith, taken_few f)
