use Rattle.std.proofs.Common.{◌≡◌, ◌≢◌, ◌<◌, ◌-◌, ℕ, length, get_or, refl, sym, subst, ap, ◌∙◌, arith}
use Rattle.std.proofs.lemmas.List.{get_or_default}
use Rattle.cdcl_activity.specs.Order.{OrderValue, IsOrder}
use Rattle.cdcl_activity.proofs.Exchange.{taken}
use Rattle.cdcl_activity.proofs.order.Order.take.Goals as goal

pub returns-clause-waiting : goal.returns-clause-waiting
returns-clause-waiting c =
    let old = c.args.self.now in
    let mid = c.exchange.new.self in
    let last = c.self.inside.count - 1 in
    let new : OrderValue = record { letters = c.self-2.inside.letters.items; places = c.self-2.inside.places.items; count = last } in
    let order : IsOrder old.letters old.places old.count = subst (λ (v : OrderValue). IsOrder v.letters v.places v.count) c.self.view_is c.self.invariant in
    let letters : c.self.inside.letters.items ≡ old.letters = ap (λ (v : OrderValue). v.letters) c.self.view_is in
    let count_is : c.self.inside.count ≡ old.count = ap (λ (v : OrderValue). v.count) c.self.view_is in
    let low : 0 < length old.letters = omega (arith, order.within, c.requires) in
    let high : last < length old.letters = omega (arith, order.within, c.requires, count_is) in
    let first : c.index-first.result.now ≡ get_or old.letters 0 0 =
    c.index-first.ensures ∙ ap (λ ls. get_or ls 0 c.index-first.result.now) letters ∙ get_or_default old.letters 0 _ 0 low in
    let same : mid.places ≡ new.places = ap (λ (v : OrderValue). v.places) (sym c.self-2.view_is) in
    taken old new order 0 last (subst (λ ps. length ps ≡ length old.places) same c.exchange.ensures.size) low high
    (subst (λ ps. get_or ps (get_or old.letters 0 0) 0 ≡ last) same c.exchange.ensures.first)
    (subst (λ ps. get_or ps (get_or old.letters last 0) 0 ≡ 0) same c.exchange.ensures.second)
    (subst (λ ps. (x : ℕ) → x ≢ get_or old.letters 0 0 → x ≢ get_or old.letters last 0 → get_or ps x 0 ≡ get_or old.places x 0) same c.exchange.ensures.others)
    c.index-first.result.now first refl (omega (arith, count_is, c.requires)) refl
