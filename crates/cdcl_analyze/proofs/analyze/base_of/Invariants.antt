use Rattle.std.proofs.Common.{◌-◌, ◌≤◌}
use Rattle.cdcl_analyze.proofs.analyze.base_of.Given as goal

abbrev pub invariant-halves : goal.invariant-halves
invariant-halves l = record {
  fits : l.low ≤ l.high;
  within : l.high ≤ l.from;
}

abbrev pub decreases-halves : goal.decreases-halves
decreases-halves l = l.high - l.low
