use Rattle.std.proofs.Common.{◌<◌, length, subst, arith}
use Rattle.cdcl_activity.specs.Order.{OrderValue, IsOrder}
use Rattle.cdcl_activity.proofs.Exchange.{swapped}
use Rattle.cdcl_activity.proofs.order.Order.swap.Goals as goal

pub returns-clause-waiting : goal.returns-clause-waiting
returns-clause-waiting c =
    let old = c.args.self.now in
    let order : IsOrder old.letters old.places old.count = subst (λ (v : OrderValue). IsOrder v.letters v.places v.count) c.self.view_is c.self.invariant in
    let low : c.args.one < length old.letters = omega (arith, order.within, c.requires.one) in
    let high : c.args.two < length old.letters = omega (arith, order.within, c.requires.two) in
    swapped old c.exchange.new.self order c.args.one c.args.two c.exchange.ensures.size low high c.exchange.ensures.first c.exchange.ensures.second
    c.exchange.ensures.others
    c.exchange.ensures.count c.requires.one c.requires.two
