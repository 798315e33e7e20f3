use Rattle.std.proofs.Common.{◌≡◌, ℕ, ◌<◌, ◌↔◌, IsTrue, Contains, length}
use Rattle.lasso_eval.specs.Rows.{cell}
use Rattle.ltl_word.specs.Trace.{state_at}
use Rattle.lasso_eval.proofs.local.letter_row.Given as goal

abbrev pub invariant-loop-i : goal.invariant-loop-i
invariant-loop-i l = record {
  count : length l.cells.items ≡ l.i;
  each : (k : ℕ) → k < l.i → IsTrue (cell l.cells.items k) ↔ Contains (state_at l.trace k) l.name;
}
