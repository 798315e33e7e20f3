use Rattle.unravel.proofs.Putting.{more_none, more_then}
use Rattle.unravel.proofs.demanded.add_fulfilment.Goals as goal

pub steps-init : goal.steps-init
steps-init c = more_none c.args.listed.now c.args.inputs.now c.requires

pub steps-preserved : goal.steps-preserved
steps-preserved c = more_then c.args.listed.now c.args.inputs.now c.steps.inputs c.add_some.new.inputs c.steps.invariant c.in_ok-add_some.ensures

pub returns : goal.returns
returns c = more_then c.args.listed.now c.args.inputs.now c.steps.inputs c.add_some-2.new.inputs c.steps.invariant c.in_ok-add_some-2.ensures
