use Rattle.std.proofs.Common.{ℕ, ◌≤◌, length}
use Rattle.ltl_syntax.specs.Replacement.{nowhere}
use Rattle.core_extract.specs.Core.{AreChanging}
use Rattle.core_extract.specs.Testing.{AreMarks, IsSettled, formula_of, test_of, marked}
use Rattle.core_extract.proofs.Kept.{kept_count}
use Rattle.core_extract.proofs.passing.passes.Given as goal

abbrev pub invariant-passes : goal.invariant-passes
invariant-passes g l = record {
  marks : AreMarks l.task l.marks.items;
  within : l.settled ≤ length l.task.order.items;
  settled : IsSettled l.task (marked l.marks.items) l.settled;
  changing : (m : ℕ) × AreChanging (test_of l.task) (formula_of l.task) m nowhere (marked l.marks.items);
}

abbrev pub decreases-passes : goal.decreases-passes
decreases-passes g l = kept_count (formula_of l.task) (marked l.marks.items)
