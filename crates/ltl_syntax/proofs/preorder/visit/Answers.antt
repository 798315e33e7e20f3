use Rattle.std.proofs.Common.{◌∙◌, ◌++◌, ap, refl, []}
use Rattle.ltl_syntax.specs.Flat.{ordered, orders_of, order_at}
use Rattle.ltl_syntax.proofs.Pending.{order_of_node, node_moves, one_on, two_on}
use Rattle.ltl_syntax.proofs.preorder.visit.Goals as goal

pub returns-in-Const-clause-order : goal.returns-in-Const-clause-order
returns-in-Const-clause-order c =
    node_moves c.args.table.now c.args.number [] c.args.order.now.items c.push.new.self.items c.args.stack.now.items
    c.args.stack.now.items c.in_ok-push.ensures.items (order_of_node c.args.table.now c.args.number c.node.result c.invariant.ensures c.node.ensures.node
    ∙ ap (ordered (orders_of c.args.table.now) c.args.number) c.in-Const.is) refl

pub returns-in-Letter-clause-order : goal.returns-in-Letter-clause-order
returns-in-Letter-clause-order c =
    node_moves c.args.table.now c.args.number [] c.args.order.now.items c.push.new.self.items c.args.stack.now.items
    c.args.stack.now.items c.in_ok-push.ensures.items (order_of_node c.args.table.now c.args.number c.node.result c.invariant.ensures c.node.ensures.node
    ∙ ap (ordered (orders_of c.args.table.now) c.args.number) c.in-Letter.is) refl

pub returns-in-Fresh-clause-order : goal.returns-in-Fresh-clause-order
returns-in-Fresh-clause-order c =
    node_moves c.args.table.now c.args.number [] c.args.order.now.items c.push.new.self.items c.args.stack.now.items
    c.args.stack.now.items c.in_ok-push.ensures.items (order_of_node c.args.table.now c.args.number c.node.result c.invariant.ensures c.node.ensures.node
    ∙ ap (ordered (orders_of c.args.table.now) c.args.number) c.in-Fresh.is) refl

pub returns-in_ok-push-in-Unary-clause-order : goal.returns-in_ok-push-in-Unary-clause-order
returns-in_ok-push-in-Unary-clause-order c =
    node_moves c.args.table.now c.args.number (order_at c.args.table.now c.in-Unary.a)
    c.args.order.now.items c.push.new.self.items c.args.stack.now.items c.push-in-Unary.new.self.items c.in_ok-push.ensures.items
    (order_of_node c.args.table.now c.args.number c.node.result c.invariant.ensures c.node.ensures.node
    ∙ ap (ordered (orders_of c.args.table.now) c.args.number) c.in-Unary.is)
    (one_on c.args.table.now c.args.stack.now.items c.push-in-Unary.new.self.items c.in-Unary.a c.in_ok-push-in-Unary.ensures.items)

pub returns-in_ok-push-in-Binary-2-clause-order : goal.returns-in_ok-push-in-Binary-2-clause-order
returns-in_ok-push-in-Binary-2-clause-order c =
    node_moves c.args.table.now c.args.number (order_at c.args.table.now c.in-Binary.a ++ order_at c.args.table.now c.in-Binary.b)
    c.args.order.now.items c.push.new.self.items c.args.stack.now.items c.push-in-Binary-2.new.self.items c.in_ok-push.ensures.items
    (order_of_node c.args.table.now c.args.number c.node.result c.invariant.ensures c.node.ensures.node
    ∙ ap (ordered (orders_of c.args.table.now) c.args.number) c.in-Binary.is)
    (two_on c.args.table.now c.args.stack.now.items c.push-in-Binary.new.self.items c.push-in-Binary-2.new.self.items c.in-Binary.a c.in-Binary.b
    c.in_ok-push-in-Binary.ensures.items c.in_ok-push-in-Binary-2.ensures.items)
