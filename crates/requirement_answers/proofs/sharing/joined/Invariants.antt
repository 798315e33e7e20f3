use Rattle.std.proofs.Common.{◌≡◌, ◌++◌, length}
use Rattle.std.specs.Vec.Iter.{into_iter_items, into_iter_len}
use Rattle.requirement_answers.specs.Inner.{AreJoined}
use Rattle.requirement_answers.proofs.sharing.joined.Given as goal

abbrev pub invariant-pieces : goal.invariant-pieces
invariant-pieces l = record {
  order : l.yielded ++ into_iter_items l.piece-iterator ≡ into_iter_items l.initial.piece-iterator;
  so_far : AreJoined l.yielded l.found.items;
  left : into_iter_len l.piece-iterator ≡ length (into_iter_items l.piece-iterator);
}
