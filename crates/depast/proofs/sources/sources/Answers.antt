use Rattle.std.proofs.Common.{◌≡◌, ◌++◌, ◌∷◌, [], sym, subst}
use Rattle.depast.specs.Postorder.{Ends, operands}
use Rattle.depast.specs.Sources.{AreSources, meanings_by}
use Rattle.depast.specs.Writing.{trees_at}
use Rattle.depast.proofs.Coming.{in_table, comes}
use Rattle.depast.proofs.Sourced.{first_under, own_added}
use Rattle.depast.proofs.sources.sources.Goals as goal

pub loop-number-init : goal.loop-number-init
loop-number-init c = ([], c.in_ok-order.ensures, subst (λ xs. AreSources c.args.table.now c.args.root xs []) (sym c.new-sources.ensures.items) tt)

pub node-requires : goal.node-requires
node-requires c = let v = c.loop-number.invariant in
    in_table c.args.table.now c.in-Some.number v.0 c.loop-number.order c.pop.new.self c.args.root v.1 c.in-Some.ensures

pub loop-number-preserved : goal.loop-number-preserved
loop-number-preserved c =
    let v = c.loop-number.invariant in
    let w =
    comes c.args.table.now c.in-Some.number c.node.result v.0 c.loop-number.order c.pop.new.self c.args.root v.1 c.in-Some.ensures c.node.ensures.node in (
      c.in-Some.number ∷ w.rest,
      w.ends,
      subst (AreSources c.args.table.now c.args.root c.put_sources.new.sources.items)
          (own_added c.args.table.now c.in-Some.number c.node.result w.rest w.is.tree)
          (c.in_ok-put_sources.ensures c.args.table.now c.args.root (meanings_by (trees_at c.args.table.now (operands c.node.result ++ w.rest))) w.is
          (first_under c.args.table.now c.args.root c.pop.new.self c.in-Some.number w.rest w.ends)
          (subst (λ done. AreSources c.args.table.now c.args.root c.loop-number.sources.items (meanings_by (trees_at c.args.table.now done)))
          w.operands_done v.2)),
    )

pub returns : goal.returns
returns c =
    let v = c.loop-number.invariant in
    let none : c.loop-number.order ≡ [] = c.in_default.ensures.0 in
    let ended : v.0 ≡ c.args.root ∷ [] = subst (λ o. Ends c.args.table.now v.0 o c.args.root) none v.1 in
    subst (λ done. AreSources c.args.table.now c.args.root c.loop-number.sources.items (meanings_by (trees_at c.args.table.now done))) ended v.2
