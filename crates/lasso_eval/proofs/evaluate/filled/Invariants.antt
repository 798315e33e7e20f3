use Rattle.std.proofs.Common.{◌≡◌, ℕ, ◌<◌, [], length}
use Rattle.ltl_syntax.specs.Table.{tree_at}
use Rattle.lasso_eval.specs.Rows.{Tells, row_at}
use Rattle.ltl_syntax.specs.Under.{IsUnder}
use Rattle.lasso_eval.proofs.evaluate.filled.Given as goal

abbrev pub invariant-loop-number : goal.invariant-loop-number
invariant-loop-number l = record {
  count : length l.rows.items ≡ l.number;
  each : (k : ℕ) → k < l.number → IsUnder l.table l.root k → Tells l.trace l.extent.depth (tree_at l.table k) (row_at l.rows.items k);
  others : (k : ℕ) → k < l.number → ¬ IsUnder l.table l.root k → row_at l.rows.items k ≡ [];
}
