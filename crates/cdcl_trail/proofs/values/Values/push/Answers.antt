use Rattle.std.proofs.Common.{◌∙◌, ◌++◌, ◌∷◌, [], false, None, sym, ap, subst}
use Rattle.std.proofs.lemmas.List.{append_assoc}
use Rattle.cdcl_trail.specs.Values.{values_of, AreTruths}
use Rattle.cdcl_trail.proofs.Told.{values_push, truths_push}
use Rattle.cdcl_trail.proofs.values.Values.push.Goals as goal

pub invariant_of-self-in-Ok : goal.invariant_of-self-in-Ok
invariant_of-self-in-Ok c =
    let truths = c.self.inside.truths.items in
    subst AreTruths (sym (c.in-Ok.ensures.items ∙ ap (λ ts. ts ++ false ∷ []) c.in_ok-push.ensures.items ∙ append_assoc truths (false ∷ []) (false ∷ [])))
    (truths_push truths c.self.invariant)

pub returns-in-Ok : goal.returns-in-Ok
returns-in-Ok c =
    let truths = c.self.inside.truths.items in
    ap values_of (c.in-Ok.ensures.items ∙ ap (λ ts. ts ++ false ∷ []) c.in_ok-push.ensures.items ∙ append_assoc truths (false ∷ []) (false ∷ []))
    ∙ values_push truths c.self.invariant ∙ ap (λ vs. vs ++ None ∷ []) c.self.view_is
