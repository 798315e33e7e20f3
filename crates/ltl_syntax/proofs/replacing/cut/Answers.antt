use Rattle.std.proofs.Common.{◌<◌, arith, length, sym}
use Rattle.ltl_syntax.specs.Cutting.{marked_places}
use Rattle.ltl_syntax.proofs.Cutting.{cut_none, unmarked, written}
use Rattle.ltl_syntax.proofs.Overwriting.{count_zero}
use Rattle.ltl_syntax.proofs.replacing.cut.Goals as goal

pub places-init : goal.places-init
places-init c = record {
  cut = cut_none c.args.order.now.items (marked_places c.args.order.now.items c.args.marks.now.items) c.args.nodes.now.items;
  next = sym (count_zero (marked_places c.args.order.now.items c.args.marks.now.items) 0);
  few = omega arith;
}

pub places-preserved : goal.places-preserved
places-preserved c =
    let low : c.places.place < length c.args.order.now.items = omega arith in
    let next =
    written c.args.order.now.items c.args.marks.now.items c.args.nodes.now.items c.places.nodes.items c.places.place c.index.result.now c.places.next low
    c.index.ensures c.requires.marks (c.requires.within c.places.place c.index.result.now low)
    c.places.invariant.cut c.places.invariant.next c.index-in-places.result.now c.index-in-places.ensures c.if-not-index.false c.requires.distinct in
    record { cut = next.0; next = next.1; few = omega arith }

pub places-preserved-then-not-index : goal.places-preserved-then-not-index
places-preserved-then-not-index c =
    let low : c.places.place < length c.args.order.now.items = omega arith in
    let next =
    unmarked c.args.order.now.items c.args.marks.now.items c.args.nodes.now.items c.places.nodes.items c.places.place c.index.result.now c.places.next low
    c.index.ensures c.requires.marks (c.requires.within c.places.place c.index.result.now low)
    c.places.invariant.cut c.places.invariant.next c.index-in-places.result.now c.index-in-places.ensures c.if-not-index.true in
    record { cut = next.0; next = next.1; few = omega arith }
