use Rattle.std.proofs.Common.{◌≡◌, ℕ, ◌+◌, ◌<◌, ◌≤◌, ◌↔◌, length, IsTrue}
use Rattle.ltl_syntax.specs.Shape.{Future, Between}
use Rattle.ltl_word.specs.Claims.{Always', IsSomewhere}
use Rattle.lasso_eval.specs.Rows.{cell}
use Rattle.lasso_eval.specs.Windows.{same, shows, IsNearest}
use Rattle.lasso_eval.proofs.window.later_row.Given as goal

abbrev pub invariant-loop-i : goal.invariant-loop-i
invariant-loop-i l = record {
  within : l.i ≤ length l.a;
  count : length l.cells.items ≡ length l.a;
  near : IsNearest (λ j. IsTrue (shows l.sought l.a l.loop_start j)) (l.i + l.first) l.nearest;
  each : (k : ℕ) → l.i ≤ k → k < length l.a
      → IsTrue (same l.sought (cell l.cells.items k)) ↔ IsSomewhere Always' Future (Between l.first l.last) (λ j. IsTrue (shows l.sought l.a l.loop_start j)) k;
}

abbrev pub decreases-loop-i : goal.decreases-loop-i
decreases-loop-i l = l.i
