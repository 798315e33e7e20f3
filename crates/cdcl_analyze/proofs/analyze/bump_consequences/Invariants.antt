use Rattle.std.proofs.Common.{◌≤◌, length}
use Rattle.cdcl_analyze.proofs.analyze.bump_consequences.Given as goal

abbrev pub invariant-down : goal.invariant-down
invariant-down l = record {
  fits : l.count ≤ length l.consequences;
}

abbrev pub decreases-down : goal.decreases-down
decreases-down l = l.count
