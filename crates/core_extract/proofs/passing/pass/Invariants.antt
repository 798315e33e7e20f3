use Rattle.std.proofs.Common.{◌≤◌, ◌-◌, length}
use Rattle.core_extract.specs.Testing.{AreMarks, marked}
use Rattle.core_extract.proofs.Rounds.{IsUnderWay, IsGoing}
use Rattle.core_extract.proofs.passing.pass.Given as goal

abbrev pub invariant-groups : goal.invariant-groups
invariant-groups g l = record {
  marks : AreMarks l.task l.marks.items;
  under : IsUnderWay l.task (marked l.fn.marks.items) (marked l.marks.items) l.at;
  going : IsGoing l.task (marked l.fn.marks.items) (marked l.marks.items) l.at l.end l.last l.settled;
  end : l.end ≤ length l.task.order.items;
}

abbrev pub decreases-groups : goal.decreases-groups
decreases-groups g l = length l.task.order.items - l.at
