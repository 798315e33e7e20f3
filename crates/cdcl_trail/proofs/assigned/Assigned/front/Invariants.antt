use Rattle.std.proofs.Common.{◌<◌, ◌≤◌, length, get_or}
use Rattle.cdcl_trail.specs.Trail.{blank_entry}
use Rattle.cdcl_trail.proofs.assigned.Assigned.front.Given as goal

abbrev pub invariant-down : goal.invariant-down
invariant-down l =
    record { within : l.count ≤ length l.self.trail; high : l.count < length l.self.trail → l.level < (get_or l.self.trail l.count blank_entry).level }

abbrev pub decreases-down : goal.decreases-down
decreases-down l = l.count
