use Rattle.std.proofs.Common.{◌≡◌, take}
use Rattle.requirement_questions.specs.Joining.{joined_at, some_of, IsBuilt}
use Rattle.requirement_questions.proofs.Picking.{picked}
use Rattle.requirement_questions.proofs.joining.join.Given as goal

abbrev pub invariant-places : goal.invariant-places
invariant-places l = record {
  built : IsBuilt l.table l.root;
  so_far : joined_at l.table l.root ≡ some_of (picked l.question (take l.k l.members));
}
