use Rattle.core_extract.proofs.Tasks.{task_made, order_under}
use Rattle.core_extract.proofs.task.Task.of.Goals as goal

pub sizes_of-requires : goal.sizes_of-requires
sizes_of-requires c =
    order_under c.args.table.now c.args.root c.in_ok-order.order.items _ c.invariant.ensures c.requires.root c.in_ok-order.ensures c.in_ok-by_node.ensures.long

pub returns-clause-task : goal.returns-clause-task
returns-clause-task c =
    task_made _ c.in_ok-by_node.by_node.items c.invariant.ensures c.requires.root c.requires.given c.in_ok-order.ensures c.in_ok-sizes.ensures.long
    c.in_ok-sizes.ensures.each c.in_ok-by_node.ensures.each c.requires.asked
