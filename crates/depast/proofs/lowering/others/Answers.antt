use Rattle.std.proofs.Common.{◌≡◌, ◌+◌, ◌∷◌, ◌++◌, [], ◌∙◌, ap, sym, subst, take}
use Rattle.std.proofs.lemmas.List.{get_or_default, take_more, take_all}
use Rattle.depast.specs.States.{AreOthers}
use Rattle.depast.proofs.Others.{others_kept, others_left}
use Rattle.depast.proofs.lowering.others.Goals as goal
use Rattle.depast.proofs.lowering.others.Goals.{Joined-not-has, then-not-has+in_ok-new+in_ok-push, else-not-has}

-- the names so far, with this one
with_this : (c : Joined-not-has)
    → take (c.loop-name.name-index + 1) c.names-name-items.result.now ≡ take c.loop-name.name-index c.names-name-items.result.now ++ c.text.result.now ∷ []
with_this c =
    take_more c.names-name-items.result.now c.loop-name.name-index [] c.loop-name-test.true
    ∙ ap (λ y. take c.loop-name.name-index c.names-name-items.result.now ++ y ∷ []) (get_or_default c.names-name-items.result.now c.loop-name.name-index []
    c.name-item.result c.loop-name-test.true ∙ (sym c.name-item.is ∙ sym c.text.ensures))

pub loop-name-preserved : goal.loop-name-preserved
loop-name-preserved c =
    subst (λ names. AreOthers c.args.new.now names c.if-not-has.others.items) (sym (with_this c))
    (elim c.if-not-has.branch [
      | then-not-has+in_ok-new+in_ok-push w ↦
          let items = w.in_ok-push.ensures.items ∙ ap (λ y. c.loop-name.others.items ++ y ∷ [])
          (w.in_ok-new.ensures ∙ (w.text-then-not-has.ensures ∙ sym c.text.ensures)) in
          subst (λ o. AreOthers c.args.new.now (take c.loop-name.name-index c.names-name-items.result.now ++ c.text.result.now ∷ []) o.items) (sym w.others-is)
          (subst (AreOthers c.args.new.now (take c.loop-name.name-index c.names-name-items.result.now ++ c.text.result.now ∷ [])) (sym items)
          (others_kept c.args.new.now (take c.loop-name.name-index c.names-name-items.result.now)
          c.loop-name.others.items c.text.result.now c.loop-name.invariant (λ h. let t = c.has.ensures.1 h in let f = w.if-not-has.true in cc)))
      | else-not-has w ↦
          subst (λ o. AreOthers c.args.new.now (take c.loop-name.name-index c.names-name-items.result.now ++ c.text.result.now ∷ []) o.items) (sym w.others-is)
          (others_left c.args.new.now (take c.loop-name.name-index c.names-name-items.result.now)
          c.loop-name.others.items c.text.result.now c.loop-name.invariant (c.has.ensures.0 w.if-not-has.false))
    ])

pub returns : goal.returns
returns c = subst (λ names. AreOthers c.args.new.now names c.loop-name.others.items)
    (take_all c.loop-name.name-index c.names-name-items.result.now c.loop-name-test.false ∙ c.names-name-items.ensures.names) c.loop-name.invariant
