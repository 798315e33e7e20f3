use Rattle.unravel.specs.Putting.{HasMore}
use Rattle.unravel.proofs.demanded.add_each_pruning.Given as goal

abbrev pub invariant-prunings : goal.invariant-prunings
invariant-prunings l = HasMore l.listed l.fn.inputs l.inputs
