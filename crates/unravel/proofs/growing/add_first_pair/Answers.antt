use Rattle.unravel.proofs.Putting.{more_none, more_then}
use Rattle.unravel.proofs.growing.add_first_pair.Goals as goal

pub returns-then-step-ne1 : goal.returns-then-step-ne1
returns-then-step-ne1 c = more_none c.args.listed.now c.args.inputs.now c.requires.part

pub returns : goal.returns
returns c =
    more_then c.args.listed.now c.args.inputs.now c.add_numbers.new.inputs c.add_numbers-2.new.inputs c.in_ok-add_numbers.ensures c.in_ok-add_numbers-2.ensures
