use Rattle.std.proofs.Common.{◌≡◌, ℕ, ◌-◌, ◌<◌, ◌↔◌, length, IsTrue}
use Rattle.ltl_syntax.specs.Shape.{Past, Between}
use Rattle.ltl_word.specs.Claims.{Always', IsSomewhere}
use Rattle.lasso_eval.specs.Rows.{cell}
use Rattle.lasso_eval.specs.Windows.{same, IsLatest}
use Rattle.lasso_eval.proofs.window.earlier_row.Given as goal

abbrev pub invariant-loop-i : goal.invariant-loop-i
invariant-loop-i l = record {
  count : length l.cells.items ≡ l.i;
  latest : IsLatest (λ j. IsTrue (same l.sought (cell l.a j))) (l.i - l.first) l.latest;
  each : (k : ℕ) → k < l.i
      → IsTrue (same l.sought (cell l.cells.items k)) ↔ IsSomewhere Always' Past (Between l.first l.last) (λ j. IsTrue (same l.sought (cell l.a j))) k;
}
