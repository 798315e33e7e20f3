use Rattle.std.proofs.Common.{◌≡◌, ◌≤◌, length, take}
use Rattle.cdcl_trail.proofs.assigned.Assigned.cut.Given as goal

abbrev pub invariant-off : goal.invariant-off
invariant-off l = record {
  trail : l.self.trail ≡ take (length l.self.trail) l.initial.self.trail;
  low : l.count ≤ length l.self.trail;
  short : length l.self.trail ≤ length l.initial.self.trail;
  letters : length l.self.values ≡ length l.initial.self.values;
}

abbrev pub decreases-off : goal.decreases-off
decreases-off l = length l.self.trail
