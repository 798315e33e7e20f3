use Rattle.std.proofs.Common.{◌≤◌, ◌-◌, length}
use Rattle.ltl_syntax.specs.Replacement.{IsClear}
use Rattle.core_extract.specs.Testing.{AreNext, formula_of, marked}
use Rattle.core_extract.proofs.passing.gather.Given as goal

abbrev pub invariant-places : goal.invariant-places
invariant-places l = record {
  next : AreNext (formula_of l.task) (marked l.marks.items) l.at l.stop l.places.items;
  clear : IsClear (formula_of l.task) (marked l.marks.items) l.stop;
  on : l.at ≤ l.stop;
  within : l.stop ≤ length l.task.order.items;
  few : length l.places.items ≤ l.workers;
}

abbrev pub decreases-places : goal.decreases-places
decreases-places l = length l.task.order.items - l.stop
