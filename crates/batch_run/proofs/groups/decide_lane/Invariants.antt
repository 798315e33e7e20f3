use Rattle.std.proofs.Common.{◌≡◌, ◌+◌, ◌*◌, ◌-◌, length}
use Rattle.batch_run.specs.Grouping.{AreOwn}
use Rattle.batch_run.proofs.groups.decide_lane.Given as goal

abbrev pub invariant-own : goal.invariant-own
invariant-own g l = record {
  at : l.index ≡ l.worker + length l.lane.outcomes.items * l.workers;
  own : AreOwn l.kind l.asked l.lines.items l.worker l.workers l.lane.outcomes.items;
}

abbrev pub decreases-own : goal.decreases-own
decreases-own g l = length l.lines.items - l.index
