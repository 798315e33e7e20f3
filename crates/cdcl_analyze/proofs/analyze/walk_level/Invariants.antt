use Rattle.std.proofs.Common.{◌≡◌, ◌≤◌, length}
use Rattle.cdcl_analyze.specs.Analysis.{AreWaiting, Walks}
use Rattle.cdcl_analyze.specs.Marks.{FoundSame}
use Rattle.cdcl_analyze.proofs.analyze.walk_level.Given as goal

abbrev pub invariant-down : goal.invariant-down
invariant-down l = record {
  walked : Walks l.graph.log l.graph.trail (length l.graph.trail) l.end l.initial.marks l.marks l.initial.learnt l.learnt;
  size : length l.marks.stamps ≡ length l.initial.marks.stamps;
  waiting : AreWaiting l.graph.trail l.end l.marks;
  found : FoundSame l.initial.marks l.marks;
  low : l.end ≤ length l.graph.trail;
}

abbrev pub decreases-down : goal.decreases-down
decreases-down l = l.end
