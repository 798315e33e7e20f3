use Rattle.std.proofs.Common.{◌+◌, ◌-◌, ◌<◌, ◌≤◌, length, IsTrue}
use Rattle.lasso_eval.specs.Windows.{shows, IsNearest}
use Rattle.lasso_eval.proofs.window.nearest_behind.Given as goal

abbrev pub invariant-loop-i : goal.invariant-loop-i
invariant-loop-i l = record {
  within : l.i ≤ length l.a + (length l.a - l.loop_start);
  behind : length l.a ≤ l.i;
  near : IsNearest (λ j. (j < length l.a + l.first + (length l.a - l.loop_start)) × IsTrue (shows l.sought l.a l.loop_start j)) (l.i + l.first) l.nearest;
}

abbrev pub decreases-loop-i : goal.decreases-loop-i
decreases-loop-i l = l.i
