use Rattle.std.proofs.Common.{◌≡◌, ◌∷◌, [], refl, sym, ◌∙◌, ap, subst}
use Rattle.depast.specs.Postorder.{Ends}
use Rattle.depast.specs.Writing.{IsDoneBy, trees_at}
use Rattle.depast.proofs.Coming.{plain_letters, in_table, comes, may_come, trees_joined}
use Rattle.depast.proofs.writer.written.Goals as goal

pub loop-number-init : goal.loop-number-init
loop-number-init c = ([], c.in_ok-order.ensures, λ l names. c.new-writer.ensures l)

pub node-requires : goal.node-requires
node-requires c =
    let v = c.loop-number.invariant in in_table c.args.table.now c.in-Some.number v.0 c.loop-number.order c.pop.new.self c.args.root v.1 c.in-Some.ensures

pub node-requires-in-Some : goal.node-requires-in-Some
node-requires-in-Some c =
    let v = c.loop-number.invariant in
    let t = c.args.table.now in
    let w =
    comes c.args.table.now c.in-Some.number c.node.result v.0 c.loop-number.order c.pop.new.self c.args.root v.1 c.in-Some.ensures c.node.ensures.node in
    may_come c.args.table.now c.in-Some.number c.node.result w.rest c.pop.new.self c.args.root c.loop-number.writer (plain_letters c.args.table.now)
    w.is w.ends c.requires.few
    (subst (λ xs. IsDoneBy (plain_letters c.args.table.now) (trees_at c.args.table.now xs) c.loop-number.writer) w.operands_done
    (v.2 (plain_letters c.args.table.now) (record { many_are = refl; each = λ n. refl })))

pub loop-number-preserved : goal.loop-number-preserved
loop-number-preserved c =
    let v = c.loop-number.invariant in
    let w =
    comes c.args.table.now c.in-Some.number c.node.result v.0 c.loop-number.order c.pop.new.self c.args.root v.1 c.in-Some.ensures c.node.ensures.node in (
      c.in-Some.number ∷ w.rest,
      w.ends,
      λ l names. subst (λ f. IsDoneBy l (f ∷ trees_at c.args.table.now w.rest) c.node-in-Some.new.self) (sym w.is.tree)
          (c.in_ok-node.ensures l c.args.table.now c.in-Some.number (trees_at c.args.table.now w.rest) names c.node.ensures.below
          (subst (λ fs. IsDoneBy l fs c.loop-number.writer)
          (ap (trees_at c.args.table.now) w.operands_done ∙ trees_joined c.args.table.now c.node.result w.rest) (v.2 l names))),
    )

pub returns : goal.returns
returns c l names =
    let v = c.loop-number.invariant in
    let none : c.loop-number.order ≡ [] = c.in_default.ensures.0 in
    let ended : v.0 ≡ c.args.root ∷ [] = subst (λ o. Ends c.args.table.now v.0 o c.args.root) none v.1 in
    subst (λ done. IsDoneBy l (trees_at c.args.table.now done) c.loop-number.writer) ended (v.2 l names)
