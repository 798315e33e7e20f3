use Rattle.unravel.proofs.Putting.{more_then}
use Rattle.unravel.proofs.demanded.add_pair.Goals as goal

pub returns : goal.returns
returns c = more_then c.args.listed.now c.args.inputs.now c.add_equal.new.inputs c.add_some.new.inputs c.in_ok-add_equal.ensures c.in_ok-add_some.ensures
