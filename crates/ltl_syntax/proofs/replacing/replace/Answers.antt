use Rattle.ltl_syntax.proofs.Few.{order_small}
use Rattle.ltl_syntax.proofs.Cutting.{order_within, order_apart, replaced_tree}
use Rattle.ltl_syntax.proofs.replacing.replace.Goals as goal

pub cut-requires-clause-within : goal.cut-requires-clause-within
cut-requires-clause-within c = order_within c.args.table.now c.args.root c.in_ok-order.order.items c.in_ok-nodes.nodes.items c.invariant.ensures c.requires.root
    c.in_ok-order.ensures c.in_ok-nodes.ensures

pub cut-requires-clause-distinct : goal.cut-requires-clause-distinct
cut-requires-clause-distinct c = order_apart c.args.table.now c.args.root c.in_ok-order.order.items c.invariant.ensures c.requires.root c.in_ok-order.ensures

pub cut-requires-clause-few : goal.cut-requires-clause-few
cut-requires-clause-few c =
    order_small c.args.table.now c.invariant.ensures c.args.root c.requires.root c.in_ok-order.order.items c.in_ok-order.ensures

pub returns-clause-tree : goal.returns-clause-tree
returns-clause-tree c =
    replaced_tree c.args.table.now c.in_ok-copy.copy c.args.root c.in_ok-order.order.items c.args.places.now c.in_ok-marks.marks.items c.in_ok-nodes.nodes.items
    c.cut.new.nodes.items c.invariant.ensures c.in_ok-copy.ensures.table
    c.requires.root c.in_ok-order.ensures c.in_ok-nodes.ensures c.in_ok-marks.ensures.marked c.cut.ensures c.in_ok-copy.ensures.nodes
    c.in_ok-copy.ensures.names c.requires.apart
