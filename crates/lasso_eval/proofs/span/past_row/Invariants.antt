use Rattle.std.proofs.Common.{◌≡◌, ℕ, suc, ◌<◌, length}
use Rattle.lasso_eval.specs.Rows.{cell}
use Rattle.lasso_eval.specs.Spans.{swept_before}
use Rattle.lasso_eval.proofs.span.past_row.Given as goal

abbrev pub invariant-loop-i : goal.invariant-loop-i
invariant-loop-i l = record {
  count : length l.cells.items ≡ l.i;
  value : l.value ≡ swept_before l.span l.a l.b l.i;
  each : (k : ℕ) → k < l.i → cell l.cells.items k ≡ swept_before l.span l.a l.b (suc k);
}
