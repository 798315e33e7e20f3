use Rattle.unravel.proofs.Putting.{more_none, more_then}
use Rattle.unravel.proofs.demanded.add_each.Goals as goal

pub constraints-init : goal.constraints-init
constraints-init c = more_none c.args.listed.now c.args.inputs.now c.requires

pub constraints-preserved : goal.constraints-preserved
constraints-preserved c =
    more_then c.args.listed.now c.args.inputs.now c.constraints.inputs c.add_constraint.new.inputs c.constraints.invariant c.in_ok-add_constraint.ensures
