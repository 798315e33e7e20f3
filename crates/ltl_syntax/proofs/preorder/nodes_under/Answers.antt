use Rattle.std.proofs.Common.{◌∙◌, ◌++◌, ap, sym}
use Rattle.ltl_syntax.specs.Pending.{pending}
use Rattle.ltl_syntax.proofs.Pending.{one_on, fewer_pending}
use Rattle.ltl_syntax.proofs.preorder.nodes_under.Goals as goal

pub loop-number-smaller : goal.loop-number-smaller
loop-number-smaller c =
    fewer_pending c.loop-number.order.items c.visit.new.order.items (pending c.args.table.now c.loop-number.stack.items)
    (pending c.args.table.now c.visit.new.stack.items)
    (c.in_ok-visit.ensures.order ∙ ap (λ us. c.loop-number.order.items ++ us)
    (sym (one_on c.args.table.now c.pop.new.self.items c.loop-number.stack.items c.in-Some.number c.in-Some.ensures.items)))
    c.in_ok-visit.ensures.longer

pub loop-number-preserved : goal.loop-number-preserved
loop-number-preserved c = record {
  order = c.in_ok-visit.ensures.order ∙ (ap (λ us. c.loop-number.order.items ++ us)
      (sym (one_on c.args.table.now c.pop.new.self.items c.loop-number.stack.items c.in-Some.number c.in-Some.ensures.items)) ∙ c.loop-number.invariant.order);
  stack = c.in_ok-visit.ensures.stack;
}
