use Rattle.std.proofs.Common.{◌≡◌, ◌-◌, ◌≤◌, length}
use Rattle.lasso_eval.specs.Spans.{beyond, swept_back}
use Rattle.lasso_eval.proofs.span.once_around.Given as goal

abbrev pub invariant-loop-i : goal.invariant-loop-i
invariant-loop-i l = record {
  within : l.i ≤ length l.a;
  above : l.loop_start ≤ l.i;
  value : l.value ≡ swept_back l.span l.a l.b (length l.a - l.i) l.i (beyond l.span);
}

abbrev pub decreases-loop-i : goal.decreases-loop-i
decreases-loop-i l = l.i
