use Rattle.std.proofs.Common.{◌≡◌, ℕ, ◌<◌, length}
use Rattle.lasso_eval.specs.Rows.{cell}
use Rattle.lasso_eval.specs.Neighbours.{earlier}
use Rattle.lasso_eval.proofs.neighbour.yesterday_row.Given as goal

abbrev pub invariant-loop-i : goal.invariant-loop-i
invariant-loop-i l = record {
  count : length l.cells.items ≡ l.i;
  each : (k : ℕ) → k < l.i → cell l.cells.items k ≡ earlier l.a l.before k;
}
