use Rattle.std.proofs.Common.{◌≡◌, ◌+◌, length}
use Rattle.batch_run.specs.Grouping.{IsUnderWay}
use Rattle.batch_run.proofs.groups.answers.Given as goal

abbrev pub invariant-groups : goal.invariant-groups
invariant-groups g l = record {
  way : IsUnderWay l.kind l.asked l.text l.answers.items l.lines.items l.rest.number l.rest.text.now;
  lanes : length l.lanes.items ≡ l.workers;
}

abbrev pub decreases-groups : goal.decreases-groups
decreases-groups g l = length l.rest.text.now + length l.lines.items
