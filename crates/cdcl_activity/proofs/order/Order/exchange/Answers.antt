use Rattle.std.proofs.Common.{◌<◌, length, get_or, sym, subst, ap, ◌∙◌}
use Rattle.std.proofs.lemmas.List.{get_or_default}
use Rattle.cdcl_activity.specs.Order.{OrderValue}
use Rattle.cdcl_activity.proofs.Exchange.{exchanged, place_first, place_second, place_other}
use Rattle.cdcl_activity.proofs.order.Order.exchange.Goals as goal

pub invariant_of-self : goal.invariant_of-self
invariant_of-self c =
    let letters = c.self.inside.letters.items in
    let low : c.args.one < length letters = subst (λ (v : OrderValue). c.args.one < length v.letters) (sym c.self.view_is) c.requires.one in
    let high : c.args.two < length letters = subst (λ (v : OrderValue). c.args.two < length v.letters) (sym c.self.view_is) c.requires.two in
    exchanged letters c.self.inside.places.items c.self.inside.count c.args.one c.args.two c.index-a.result.now c.index-b.result.now c.self.invariant low high
    (c.index-a.ensures ∙ get_or_default letters c.args.one _ 0 low) (c.index-b.ensures ∙ get_or_default letters c.args.two _ 0 high)

pub returns-clause-first : goal.returns-clause-first
returns-clause-first c =
    let letters = c.self.inside.letters.items in
    let low : c.args.one < length letters = subst (λ (v : OrderValue). c.args.one < length v.letters) (sym c.self.view_is) c.requires.one in
    let high : c.args.two < length letters = subst (λ (v : OrderValue). c.args.two < length v.letters) (sym c.self.view_is) c.requires.two in
    let a = c.index-a.ensures ∙ get_or_default letters c.args.one _ 0 low in
    let b = c.index-b.ensures ∙ get_or_default letters c.args.two _ 0 high in
    rw (ap (λ (v : OrderValue). get_or v.letters c.args.one 0) (sym c.self.view_is) ∙ sym a)
    (place_first letters c.self.inside.places.items c.self.inside.count c.args.one c.args.two c.index-a.result.now c.index-b.result.now
    c.self.invariant low high a b)

pub returns-clause-second : goal.returns-clause-second
returns-clause-second c =
    let letters = c.self.inside.letters.items in
    let low : c.args.one < length letters = subst (λ (v : OrderValue). c.args.one < length v.letters) (sym c.self.view_is) c.requires.one in
    let high : c.args.two < length letters = subst (λ (v : OrderValue). c.args.two < length v.letters) (sym c.self.view_is) c.requires.two in
    let a = c.index-a.ensures ∙ get_or_default letters c.args.one _ 0 low in
    let b = c.index-b.ensures ∙ get_or_default letters c.args.two _ 0 high in
    rw (ap (λ (v : OrderValue). get_or v.letters c.args.two 0) (sym c.self.view_is) ∙ sym b)
    (place_second letters c.self.inside.places.items c.self.inside.count c.args.one c.args.two c.index-a.result.now c.index-b.result.now
    c.self.invariant low high a b)

pub returns-clause-others : goal.returns-clause-others
returns-clause-others c = λ x no_a no_b.
    let letters = c.self.inside.letters.items in
    let low : c.args.one < length letters = subst (λ (v : OrderValue). c.args.one < length v.letters) (sym c.self.view_is) c.requires.one in
    let high : c.args.two < length letters = subst (λ (v : OrderValue). c.args.two < length v.letters) (sym c.self.view_is) c.requires.two in
    let a = c.index-a.ensures ∙ get_or_default letters c.args.one _ 0 low in
    let b = c.index-b.ensures ∙ get_or_default letters c.args.two _ 0 high in
    let a_is = a ∙ ap (λ (v : OrderValue). get_or v.letters c.args.one 0) c.self.view_is in
    let b_is = b ∙ ap (λ (v : OrderValue). get_or v.letters c.args.two 0) c.self.view_is in
    place_other letters c.self.inside.places.items c.self.inside.count c.args.one c.args.two c.index-a.result.now c.index-b.result.now c.self.invariant low high
    a b x (λ e. no_a (e ∙ a_is)) (λ e. no_b (e ∙ b_is))
    ∙ ap (λ (v : OrderValue). get_or v.places x 0) c.self.view_is
