use Rattle.unravel.specs.Putting.{HasMore}
use Rattle.unravel.proofs.demanded.add_chain.Given as goal

abbrev pub invariant-steps : goal.invariant-steps
invariant-steps l = HasMore l.listed l.fn.inputs l.inputs
