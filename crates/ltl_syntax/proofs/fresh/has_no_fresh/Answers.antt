use Rattle.std.proofs.Common.{◌<◌, ◌∙◌, length, refl, sym, subst, arith}
use Rattle.std.proofs.lemmas.List.{get_or_read_under}
use Rattle.ltl_syntax.proofs.Cutting.{order_within}
use Rattle.ltl_syntax.proofs.NoFresh.{named_on, all_named, is_not}
use Rattle.ltl_syntax.proofs.fresh.has_no_fresh.Goals as goal

pub places-init : goal.places-init
places-init c i lt = absurd (omega arith)

pub node-requires : goal.node-requires
node-requires c =
    let all =
    order_within c.args.table.now c.args.root c.in_ok-order.order.items c.args.table.now.nodes c.invariant.ensures c.requires c.in_ok-order.ensures refl in
    subst (λ n. n < length c.args.table.now.nodes) (sym c.index.ensures)
    (all c.places.place c.index.result.now (omega (arith, c.places-test.true, c.len-place-end.ensures)))

pub returns-then-is_fresh : goal.returns-then-is_fresh
returns-then-is_fresh c =
    let at = get_or_read_under c.in_ok-order.order.items c.places.place (length c.in_ok-order.order.items) c.index.result.now 0 c.index.ensures
    (omega (arith, c.places-test.true, c.len-place-end.ensures)) refl in (
      λ yes'. cc,
      λ free. absurd (is_not c.args.table.now c.invariant.ensures c.args.root c.places.place c.in_ok-order.order.items c.requires c.in_ok-order.ensures
          c.node.result c.index.result.now at (omega (arith, c.places-test.true, c.len-place-end.ensures))
          c.node.ensures.node (sym c.is_fresh.ensures ∙ c.if-is_fresh.true) free),
    )

pub places-preserved : goal.places-preserved
places-preserved c =
    let at = get_or_read_under c.in_ok-order.order.items c.places.place (length c.in_ok-order.order.items) c.index.result.now 0 c.index.ensures
    (omega (arith, c.places-test.true, c.len-place-end.ensures)) refl in
    named_on c.args.table.now c.invariant.ensures c.args.root c.places.place c.in_ok-order.order.items c.requires c.in_ok-order.ensures c.node.result
    c.index.result.now at
    c.node.ensures.node (sym c.is_fresh.ensures ∙ c.if-is_fresh.false) c.places.invariant

pub returns : goal.returns
returns c = (
  λ yes. all_named c.args.table.now c.invariant.ensures c.args.root c.places.place c.in_ok-order.order.items c.requires c.in_ok-order.ensures c.places.invariant
      (omega (arith, c.places-test.false, c.len-place-end.ensures)),
  λ free. refl,
)
