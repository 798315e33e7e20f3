use Rattle.std.proofs.Common.{◌∙◌, length, ap, refl, arith}
use Rattle.std.specs.List.{sum_by}
use Rattle.ltl_syntax.specs.Under.{size_at}
use Rattle.ltl_syntax.proofs.Orders.{order_long}
use Rattle.ltl_syntax.proofs.Cutting.{order_within}
use Rattle.ltl_syntax.proofs.Few.{order_small, order_up_to}
use Rattle.ltl_syntax.proofs.Under.{all_low, order_marks, order_size}
use Rattle.ltl_syntax.proofs.marks.mark_under.Goals as goal

pub marked-requires : goal.marked-requires
marked-requires c =
    all_low c.args.table.now c.invariant.ensures c.args.root c.requires c.deref.result.now (c.deref.ensures.value ∙ c.in_ok-order.ensures)

pub sum_of_sizes-size-requires-clause-there : goal.sum_of_sizes-size-requires-clause-there
sum_of_sizes-size-requires-clause-there c =
    order_within c.args.table.now c.args.root c.deref-2.result.now c.args.table.now.nodes c.invariant.ensures c.requires
    (c.deref-2.ensures.value ∙ c.in_ok-order.ensures) refl

pub sum_of_sizes-size-requires-clause-few : goal.sum_of_sizes-size-requires-clause-few
sum_of_sizes-size-requires-clause-few c =
    order_small c.args.table.now c.invariant.ensures c.args.root c.requires c.deref-2.result.now (c.deref-2.ensures.value ∙ c.in_ok-order.ensures)

pub overflow_cast-count : goal.overflow_cast-count
overflow_cast-count c =
    let small = order_small c.args.table.now c.invariant.ensures c.args.root c.requires c.in_ok-order.order.items c.in_ok-order.ensures in
    omega (arith, c.len-count.ensures, small)

pub returns-clause-marks : goal.returns-clause-marks
returns-clause-marks c =
    order_marks c.args.table.now c.invariant.ensures c.args.root c.requires c.deref.result.now c.in_ok-marks.marks.items
    (c.deref.ensures.value ∙ c.in_ok-order.ensures) c.in_ok-marks.ensures.marked

pub returns-clause-count : goal.returns-clause-count
returns-clause-count c =
    let long = ap length c.in_ok-order.ensures ∙ order_long c.args.table.now c.invariant.ensures c.args.root c.requires in
    omega (arith, c.len-count.ensures, c.in_ok-order.order.ok.0, long)

pub returns-clause-few : goal.returns-clause-few
returns-clause-few c =
    let few = order_up_to c.args.table.now c.invariant.ensures c.args.root c.requires in
    omega (arith, c.len-count.ensures, ap length c.in_ok-order.ensures, few)

pub returns-clause-size : goal.returns-clause-size
returns-clause-size c =
    c.sum_of_sizes-size.ensures.sum ∙ (ap (sum_by (size_at c.args.table.now)) (c.deref-2.ensures.value ∙ c.in_ok-order.ensures)
    ∙ order_size c.args.table.now c.invariant.ensures c.args.root c.requires)

pub returns-clause-small : goal.returns-clause-small
returns-clause-small c =
    let same = c.deref-2.ensures.value ∙ c.in_ok-order.ensures in
    let small = order_small c.args.table.now c.invariant.ensures c.args.root c.requires c.deref-2.result.now same in
    omega (arith, c.sum_of_sizes-size.ensures.small, small)
