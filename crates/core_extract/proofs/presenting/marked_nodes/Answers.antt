use Rattle.std.proofs.Common.{◌≡◌, ◌+◌, ◌<◌, ◌∷◌, ◌++◌, [], ◌∙◌, false, ap, arith, length, subst, sym}
use Rattle.core_extract.proofs.Members.{read}
use Rattle.core_extract.proofs.Tasks.{node_within}
use Rattle.core_extract.proofs.Marks.{AreNodes, nodes_none, nodes_on, nodes_more, nodes_places, within_more}
use Rattle.core_extract.proofs.presenting.marked_nodes.Goals as goal

pub places-init : goal.places-init
places-init c = record {
  within = λ k d lt. let e = ap length c.new-numbers.ensures.items in absurd (omega arith);
  nodes = subst (AreNodes c.args.task.now.order.items c.args.marks.now.items 0) (sym c.new-numbers.ensures.items)
      (nodes_none c.args.task.now.order.items c.args.marks.now.items);
}

pub places-preserved-then-not-index : goal.places-preserved-then-not-index
places-preserved-then-not-index c =
    let low : c.places.place < length c.args.marks.now.items = omega arith in
    let off = read c.args.marks.now.items c.places.place c.index.result.now false low c.index.ensures ∙ c.if-not-index.true in
    record {
      within = c.places.invariant.within;
      nodes = nodes_on c.args.task.now.order.items c.args.marks.now.items c.places.place c.places.numbers.items c.places.invariant.nodes off;
    }

pub places-preserved : goal.places-preserved
places-preserved c =
    let low : c.places.place < length c.args.marks.now.items = omega arith in
    let there : c.places.place < length c.args.task.now.order.items = let e = c.requires.marks.long in omega arith in
    let on = read c.args.marks.now.items c.places.place c.index.result.now false low c.index.ensures ∙ c.if-not-index.false in
    let number = read c.args.task.now.order.items c.places.place c.index-in-places.result.now 0 there c.index-in-places.ensures in
    let node = node_within c.args.task.now c.requires.task c.places.place there in
    record {
      within = within_more (length c.args.task.now.table.now.nodes)
          c.places.numbers.items c.push.new.self.items c.index-in-places.result.now c.places.invariant.within (omega arith) c.in_ok-push.ensures.items;
      nodes = subst (AreNodes c.args.task.now.order.items c.args.marks.now.items (c.places.place + 1))
          (ap (λ x. c.places.numbers.items ++ x ∷ []) number ∙ sym c.in_ok-push.ensures.items)
          (nodes_more c.args.task.now.order.items c.args.marks.now.items c.places.place c.places.numbers.items c.places.invariant.nodes on);
    }

pub returns-clause-places : goal.returns-clause-places
returns-clause-places c =
    let end : c.places.place ≡ length c.args.marks.now.items = omega arith in
    nodes_places c.args.task.now c.requires.task c.args.marks.now.items c.places.numbers.items c.requires.marks
    (subst (λ n. AreNodes c.args.task.now.order.items c.args.marks.now.items n c.places.numbers.items) end c.places.invariant.nodes)
