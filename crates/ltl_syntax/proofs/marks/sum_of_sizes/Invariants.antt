use Rattle.std.proofs.Common.{◌≡◌, ◌*◌, ◌≤◌, take}
use Rattle.std.specs.List.{sum_by}
use Rattle.ltl_syntax.specs.Under.{size_at}
use Rattle.ltl_syntax.proofs.marks.sum_of_sizes.Given as goal

abbrev pub invariant-sizes : goal.invariant-sizes
invariant-sizes l = record {
  sum : l.sum ≡ sum_by (size_at l.table) (take l.index l.numbers);
  small : l.sum ≤ 255 * l.index;
}
