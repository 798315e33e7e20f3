use Rattle.std.proofs.Common.{◌≡◌, ℕ, ◌<◌, length}
use Rattle.lasso_eval.specs.Rows.{cell}
use Rattle.lasso_eval.specs.Truth.{connected}
use Rattle.lasso_eval.proofs.local.connective_row.Given as goal

abbrev pub invariant-loop-i : goal.invariant-loop-i
invariant-loop-i l = record {
  count : length l.cells.items ≡ l.i;
  each : (k : ℕ) → k < l.i → cell l.cells.items k ≡ connected l.connective (cell l.a k) (cell l.b k);
}
