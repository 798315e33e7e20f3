use Rattle.std.proofs.Common.{◌≡◌, ◌↔◌, ◌∷◌, ◌++◌, [], ◌∙◌, ap, sym, subst, take, Contains}
use Rattle.std.proofs.lemmas.List.{get_or_default, take_more, take_all}
use Rattle.depast.proofs.lowering.new_names.Goals as goal

pub loop-name-preserved : goal.loop-name-preserved
loop-name-preserved c =
    let xs = c.names-name-items.result.now in
    let item = get_or_default c.names-name-items.result.now c.loop-name.name-index [] c.name-item.result c.loop-name-test.true ∙ sym c.name-item.is in
    c.in_ok-push.ensures.items ∙ (ap (λ ys. ys ++ c.in_ok-new.field-0 ∷ []) c.loop-name.invariant
    ∙ (ap (λ y. take c.loop-name.name-index c.names-name-items.result.now ++ y ∷ []) (c.in_ok-new.ensures ∙ (c.text.ensures ∙ sym item))
    ∙ sym (take_more c.names-name-items.result.now c.loop-name.name-index [] c.loop-name-test.true)))

pub returns : goal.returns
returns c name =
    let all : c.loop-name.names.items ≡ c.args.removed.now.names =
    c.loop-name.invariant ∙ (take_all c.loop-name.name-index c.names-name-items.result.now c.loop-name-test.false ∙ c.names-name-items.ensures) in
    subst (λ xs. Contains c.in_ok-new-2.new name ↔ Contains xs name) all (c.in_ok-new-2.ensures.members name)
