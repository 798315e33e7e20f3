use Rattle.std.proofs.Common.{◌≡◌, ℕ, ◌-◌, ◌<◌, ◌≤◌, length}
use Rattle.lasso_eval.specs.Rows.{cell}
use Rattle.lasso_eval.specs.Spans.{beyond, swept_back}
use Rattle.lasso_eval.proofs.span.future_row.Given as goal

abbrev pub invariant-loop-i : goal.invariant-loop-i
invariant-loop-i l =
    let around = swept_back l.span l.a l.b (length l.a - l.loop_start) l.loop_start (beyond l.span) in
    record {
      within : l.i ≤ length l.a;
      count : length l.cells.items ≡ length l.a;
      value : l.value ≡ swept_back l.span l.a l.b (length l.a - l.i) l.i around;
      each : (k : ℕ) → l.i ≤ k → k < length l.a → cell l.cells.items k ≡ swept_back l.span l.a l.b (length l.a - k) k around;
    }

abbrev pub decreases-loop-i : goal.decreases-loop-i
decreases-loop-i l = l.i
