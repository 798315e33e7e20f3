use Rattle.ltl_parser.proofs.Building.{becomes_popped, becomes_more}
use Rattle.ltl_parser.proofs.reduce.reduce.Goals as goal

pub loop-node-preserved : goal.loop-node-preserved
loop-node-preserved c = becomes_more _ _ _ _ _ _ _ _ _ _ c.loop-node.invariant (becomes_popped c.args.level c.loop-node.table c.push.new.self c.loop-node.stack
    c.pop.new.self c.loop-node.operand c.in_ok-operand.operand c.in-Some.node c.pop.result c.in-Some.ensures c.pop.ensures c.loop-node.invariant.pending
    c.in_ok-operand.ensures.ok c.in_ok-operand.ensures.root c.in_ok-operand.ensures.number)
