use Rattle.std.proofs.Common.{◌-◌, ◌≤◌}
use Rattle.cert_text.proofs.blocks.last_space_end.Given as goal

abbrev pub invariant-back : goal.invariant-back
invariant-back l = (l.at ≤ l.end) × (l.end ≤ l.to)

abbrev pub decreases-back : goal.decreases-back
decreases-back l = l.end - l.at
