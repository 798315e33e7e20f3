use Rattle.ltl_parser.proofs.Stepping.{constant_added}
use Rattle.ltl_parser.proofs.step.push_constant.Goals as goal

pub returns-clause-leaf : goal.returns-clause-leaf
returns-clause-leaf c = constant_added c.args.table.now c.push.new.self c.args.value c.in_ok-number.number c.in_ok-number.ensures.ok c.in_ok-number.ensures.root
    c.in_ok-number.ensures.number
