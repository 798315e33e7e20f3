use Rattle.unravel.specs.Putting.{HasMore}
use Rattle.unravel.proofs.demanded.add_each.Given as goal

abbrev pub invariant-constraints : goal.invariant-constraints
invariant-constraints l = HasMore l.listed l.fn.inputs l.inputs
