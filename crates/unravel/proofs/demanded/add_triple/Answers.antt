use Rattle.unravel.proofs.Putting.{more_then}
use Rattle.unravel.proofs.demanded.add_triple.Goals as goal

pub returns : goal.returns
returns c =
    let x = c.args.listed.now in
    let start = c.args.inputs.now in
    let equal = more_then x start c.add_equal.new.inputs c.add_equal-2.new.inputs c.in_ok-add_equal.ensures c.in_ok-add_equal-2.ensures in
    let first = more_then x start c.add_equal-2.new.inputs c.add_chain.new.inputs equal c.in_ok-add_chain.ensures in
    let second = more_then x start c.add_chain.new.inputs c.add_chain-2.new.inputs first c.in_ok-add_chain-2.ensures in
    let seen = more_then x start c.add_chain-2.new.inputs c.add_some.new.inputs second c.in_ok-add_some.ensures in
    more_then x start c.add_some.new.inputs c.add_some-2.new.inputs seen c.in_ok-add_some-2.ensures
