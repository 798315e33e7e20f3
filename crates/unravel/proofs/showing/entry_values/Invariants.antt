use Rattle.std.proofs.Common.{◌≡◌, take}
use Rattle.cdcl.specs.SolverValue.{value_of}
use Rattle.unravel.specs.Values.{values_at}
use Rattle.unravel.proofs.showing.entry_values.Given as goal

abbrev pub invariant-loop-number : goal.invariant-loop-number
invariant-loop-number l = l.values.items ≡ values_at l.layout (value_of l.solver) l.step (take l.number-index l.numbers)
