use Rattle.std.proofs.Common.{◌≡◌, length}
use Rattle.formula_copy.specs.Part.{marked, marked_size, sum_below}
use Rattle.formula_copy.specs.Copy.{numbers_in, done, IsCopied, HasGrown}
use Rattle.formula_copy.proofs.copying.copy.Given as goal

abbrev pub invariant-nodes : goal.invariant-nodes
invariant-nodes l = record {
  copied : IsCopied l.part.table.now (done (marked l.part.marks.items) l.number) (numbers_in l.numbers.items) l.fn.target l.target;
  grown : HasGrown l.fn.target l.target (sum_below (marked_size l.part.table.now (marked l.part.marks.items)) l.number);
  count : length l.numbers.items ≡ l.number;
}
