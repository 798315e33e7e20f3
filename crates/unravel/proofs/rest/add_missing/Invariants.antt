use Rattle.std.proofs.Common.{take, All, Contains}
use Rattle.unravel.specs.Putting.{list_of, HasMore}
use Rattle.unravel.proofs.rest.add_missing.Given as goal

abbrev pub invariant-numbers : goal.invariant-numbers
invariant-numbers l = record {
  more : HasMore l.listed l.fn.inputs l.inputs;
  there : All (Contains l.inputs.solver.log.inputs) (take l.index (list_of l.listed));
}
