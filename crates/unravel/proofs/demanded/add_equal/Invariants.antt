use Rattle.unravel.specs.Putting.{HasMore}
use Rattle.unravel.proofs.demanded.add_equal.Given as goal

abbrev pub invariant-places : goal.invariant-places
invariant-places l = HasMore l.listed l.fn.inputs l.inputs
