use Rattle.unravel.proofs.Putting.{more_none, more_then}
use Rattle.unravel.proofs.demanded.add_fulfilled.Goals as goal

pub all-init : goal.all-init
all-init c = more_none c.args.listed.now c.args.inputs.now c.requires

pub all-preserved : goal.all-preserved
all-preserved c = more_then c.args.listed.now c.args.inputs.now c.all.inputs c.add_some.new.inputs c.all.invariant c.in_ok-add_some.ensures
