use Rattle.unravel.specs.Putting.{HasMore}
use Rattle.unravel.proofs.demanded.add_fulfilled.Given as goal

abbrev pub invariant-all : goal.invariant-all
invariant-all l = HasMore l.listed l.fn.inputs l.inputs
