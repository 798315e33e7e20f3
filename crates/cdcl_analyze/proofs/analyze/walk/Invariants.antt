use Rattle.std.proofs.Common.{◌≡◌, ◌≤◌, List, All, length}
use Rattle.cdcl_trail.specs.Trail.{IsDecision}
use Rattle.cdcl_analyze.specs.Analysis.{AreWaiting, IsLike, Walks}
use Rattle.cdcl_trail.specs.declared.assigned.TrailEntry.{TrailEntry}
use Rattle.cdcl_analyze.proofs.analyze.walk.Given as goal

abbrev pub invariant-down : goal.invariant-down
invariant-down l = record {
  walked : (t : List TrailEntry) → IsLike l.graph t l.from → Walks l.graph.log t l.from l.end l.initial.marks l.marks l.initial.learnt l.learnt;
  decided : (t : List TrailEntry) → IsLike l.graph t l.from → All (IsDecision t) l.initial.learnt.places.items → All (IsDecision t) l.learnt.places.items;
  size : length l.marks.stamps ≡ length l.initial.marks.stamps;
  waiting : AreWaiting l.graph.trail l.end l.marks;
  low : l.end ≤ l.from;
}

abbrev pub decreases-down : goal.decreases-down
decreases-down l = l.end
