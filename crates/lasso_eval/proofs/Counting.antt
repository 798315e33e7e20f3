-- Bounds on the number of cells.
use Rattle.std.proofs.Common.{ℕ, ◌*◌, ◌<◌, ◌≤◌, arith}
use Rattle.std.proofs.Math.Nat.{mul-le-mul_right}
use Rattle.ltl_syntax.specs.Formula.{Formula, Const, Letter, Unary, Binary, nodes_in}
use Rattle.ltl_word.specs.declared.trace.Trace.{Trace}
use Rattle.ltl_word.specs.declared.trace.Trace.TheVariants.{Infinite, Finite}
use Rattle.ltl_word.specs.Trace.{IsTrace}
use Rattle.lasso_eval.specs.Cells.{columns}

pub some_nodes : (f : Formula) → 1 ≤ nodes_in f
some_nodes (Const b) = omega arith
some_nodes other = omega arith

-- one factor is at most a product whose other factor is not 0
pub factor_within : (count columns limit : ℕ) → 1 ≤ count → count * columns ≤ limit → columns ≤ limit
factor_within count columns limit some within = let more : 1 * columns ≤ count * columns = mul-le-mul_right columns some in omega (arith, more, within)

-- a trace has a position
pub some_columns : (t : Trace) (depth : ℕ) → IsTrace t → 0 < columns t depth
some_columns (Infinite stem loop_part) depth some = omega arith
some_columns (Finite states) depth some = some
