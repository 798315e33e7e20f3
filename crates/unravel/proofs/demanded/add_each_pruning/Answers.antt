use Rattle.unravel.proofs.Putting.{more_none, more_then}
use Rattle.unravel.proofs.demanded.add_each_pruning.Goals as goal

pub prunings-init : goal.prunings-init
prunings-init c = more_none c.args.listed.now c.args.inputs.now c.requires

pub prunings-preserved : goal.prunings-preserved
prunings-preserved c = more_then c.args.listed.now c.args.inputs.now c.prunings.inputs c.add_pruning.new.inputs c.prunings.invariant c.in_ok-add_pruning.ensures
