use Rattle.std.proofs.Common.{◌≡◌, ℕ, ◌≤◌, not, ◌&&◌, ◌||◌}
use Rattle.std.specs.Prelude.{nat_lt}
use Rattle.demand.specs.Values.{passes_below}
use Rattle.demand.specs.Rows.{rows_in}
use Rattle.demand.specs.Closing.{is_met}
use Rattle.demand.proofs.closing.done_before.Given as goal

abbrev pub invariant-loop-eventuality : goal.invariant-loop-eventuality
invariant-loop-eventuality l = record {
  within : l.before ≤ l.last;
  done : (n : ℕ) → nat_lt n l.before
      ≡ (nat_lt n l.last && passes_below l.eventuality (is_met (rows_in l.rows) n l.last));
}
