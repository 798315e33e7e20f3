use Rattle.std.proofs.Common.{◌<◌, ◌≤◌, ◌+◌, ◌*◌, length}
use Rattle.requirement_questions.specs.Answer.{IsBecause}
use Rattle.requirement_questions.proofs.leaving.fewest.Given as goal

abbrev pub invariant-stretches : goal.invariant-stretches
invariant-stretches l = record {
  because : IsBecause l.question l.because.value;
  low : l.next.end ≤ length l.because.value.members.items;
  some : 0 < l.next.width;
}

abbrev pub decreases-stretches : goal.decreases-stretches
decreases-stretches l = 3 * l.next.end + l.next.width
