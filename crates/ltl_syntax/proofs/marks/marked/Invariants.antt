use Rattle.std.proofs.Common.{◌≡◌, length, take}
use Rattle.ltl_syntax.specs.Cutting.{AreMarked}
use Rattle.ltl_syntax.proofs.marks.marked.Given as goal

abbrev pub invariant-numbers : goal.invariant-numbers
invariant-numbers l = record {
  long : length l.marks.items ≡ l.count;
  marked : AreMarked (take l.index l.numbers) l.marks.items;
}
