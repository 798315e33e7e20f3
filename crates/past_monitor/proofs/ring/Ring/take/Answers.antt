use Rattle.std.proofs.Common.{◌∙◌, arith}
use Rattle.past_monitor.proofs.Rings.{few_entered, left, ring_taken}
use Rattle.past_monitor.proofs.ring.Ring.take.Goals as goal

pub overflow_add-self : goal.overflow_add-self
overflow_add-self c =
    let few = few_entered c.self.inside.room c.self.inside.first c.self.inside.sought c.self.inside.found c.self.inside.values.items _ c.self.invariant
    c.args.self.now c.self.view_is c.args.present
    c.counted-entering.result c.counted-entering.ensures in
    omega (arith, few)

pub overflow_sub-self : goal.overflow_sub-self
overflow_sub-self c =
    let there = left c.self.inside.room c.self.inside.first c.self.inside.sought c.self.inside.found c.self.inside.values.items _ c.self.invariant
    c.args.self.now c.self.view_is c.args.present
    c.counted-entering.result c.counted-leaving.result c.counted-entering.ensures c.counted-leaving.ensures in
    omega (arith, there)

pub invariant_of-self : goal.invariant_of-self
invariant_of-self c =
    ring_taken c.self.inside.room c.self.inside.first c.self.inside.sought c.self.inside.found c.self.inside.values.items _ c.self.invariant c.args.self.now
    c.self.view_is c.args.present
    c.counted-entering.result c.counted-leaving.result c.truncate.new.self.items c.push_front_reserved.new.self.items _ c.counted-entering.ensures
    c.counted-leaving.ensures
    c.if-self-eq0.false c.truncate.ensures.items c.push_front_reserved.ensures.items (c.push_front_reserved.ensures.capacity ∙ c.truncate.ensures.capacity)
