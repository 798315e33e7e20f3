use Rattle.std.proofs.Common.{◌≡◌, ◌≤◌, length}
use Rattle.log_trim.specs.Marking.{marked, HasTargets, AreNeeded, IsMarkedFrom}
use Rattle.log_trim.proofs.trimming.needed.Given as goal

abbrev pub invariant-targets : goal.invariant-targets
invariant-targets l = record {
  needed : AreNeeded l.log l.targets (marked l.flags.items);
  has : HasTargets (marked l.flags.items) l.targets l.target-index;
  long : length l.flags.items ≡ length l.log.lines;
}

abbrev pub invariant-lines : goal.invariant-lines
invariant-lines l = record {
  marked : IsMarkedFrom l.log l.targets l.left (marked l.flags.items);
  long : length l.flags.items ≡ length l.log.lines;
  left : l.left ≤ length l.log.lines;
}

abbrev pub decreases-lines : goal.decreases-lines
decreases-lines l = l.left
