use Rattle.unravel.proofs.Putting.{more_none, more_then}
use Rattle.unravel.proofs.demanded.add_equal.Goals as goal

pub places-init : goal.places-init
places-init c = more_none c.args.listed.now c.args.inputs.now c.requires

pub places-preserved : goal.places-preserved
places-preserved c = more_then c.args.listed.now c.args.inputs.now c.places.inputs c.add_some.new.inputs c.places.invariant c.in_ok-add_some.ensures

pub returns : goal.returns
returns c = more_then c.args.listed.now c.args.inputs.now c.places.inputs c.add_some-2.new.inputs c.places.invariant c.in_ok-add_some-2.ensures
