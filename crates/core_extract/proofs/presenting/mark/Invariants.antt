use Rattle.std.proofs.Common.{◌≡◌, length}
use Rattle.core_extract.proofs.Marks.{AreCleared}
use Rattle.core_extract.proofs.presenting.mark.Given as goal

abbrev pub invariant-under : goal.invariant-under
invariant-under l = record {
  long : length l.marks.items ≡ length l.fn.marks.items;
  cleared : AreCleared l.fn.marks.items l.marks.items l.first l.under;
}
