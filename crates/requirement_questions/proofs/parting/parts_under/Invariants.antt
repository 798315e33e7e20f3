use Rattle.std.proofs.Common.{◌≡◌, ◌+◌, length}
use Rattle.requirement_questions.proofs.Parts.{IsCut}
use Rattle.requirement_questions.proofs.parting.parts_under.Given as goal

abbrev pub invariant-joints : goal.invariant-joints
invariant-joints l = record {
  cut : IsCut l.table l.root l.number l.parts.items;
  many : length l.parts.items + 1 ≡ l._place;
}
