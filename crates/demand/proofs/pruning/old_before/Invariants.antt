use Rattle.std.proofs.Common.{◌≡◌, ℕ, ◌≤◌, not, ◌&&◌, ◌||◌}
use Rattle.std.specs.Prelude.{nat_lt}
use Rattle.demand.specs.Values.{passes_below}
use Rattle.demand.specs.Rows.{rows_in}
use Rattle.demand.specs.Pruning.{is_old}
use Rattle.demand.proofs.pruning.old_before.Given as goal

abbrev pub invariant-loop-eventuality : goal.invariant-loop-eventuality
invariant-loop-eventuality l = record {
  within : l.before ≤ l.second;
  old : (n : ℕ) → nat_lt n l.before
      ≡ (nat_lt n l.second && passes_below l.eventuality (is_old (rows_in l.rows) n l.second l.state));
}
