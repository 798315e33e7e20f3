use Rattle.std.proofs.Common.{◌≡◌, ◌≢◌, ◌<◌, ◌≤◌, ◌+◌, inl, inr, ℕ, length, get_or, sym, subst, ap, ◌∙◌, arith}
use Rattle.std.proofs.lemmas.Bool.{cases_lt}
use Rattle.std.proofs.lemmas.List.{get_or_default}
use Rattle.cdcl_activity.specs.Order.{OrderValue, IsOrder}
use Rattle.cdcl_activity.proofs.Exchange.{inserted}
use Rattle.cdcl_activity.proofs.order.Order.insert.Goals as goal

pub returns-clause-waiting : goal.returns-clause-waiting
returns-clause-waiting c =
    let old = c.args.self.now in
    let mid = c.exchange.new.self in
    let place = c.index.result.now in
    let count = c.self.inside.count in
    let new : OrderValue = record { letters = c.self-2.inside.letters.items; places = c.self-2.inside.places.items; count = count + 1 } in
    let order : IsOrder old.letters old.places old.count = subst (λ (v : OrderValue). IsOrder v.letters v.places v.count) c.self.view_is c.self.invariant in
    let places : c.self.inside.places.items ≡ old.places = ap (λ (v : OrderValue). v.places) c.self.view_is in
    let count_is : count ≡ old.count = ap (λ (v : OrderValue). v.count) c.self.view_is in
    let stands : get_or old.places c.args.letter 0 ≡ place =
    get_or_default old.places c.args.letter 0 place c.requires.known ∙ ap (λ ps. get_or ps c.args.letter place) (sym places) ∙ sym c.index.ensures in
    let above : old.count ≤ place = elim (cases_lt place old.count) [
      | inl low ↦ absurd (c.requires.fresh (record { known = c.requires.known; first = omega (arith, stands, low) }))
      | inr high ↦ omega (arith, high)
    ] in
    let low : place < length old.letters = subst (λ n. n < length old.letters) stands (order.inside c.args.letter c.requires.known) in
    let high : count < length old.letters = omega (arith, low, above, count_is) in
    let same : mid.places ≡ new.places = ap (λ (v : OrderValue). v.places) (sym c.self-2.view_is) in
    inserted old new order place count (subst (λ ps. length ps ≡ length old.places) same c.exchange.ensures.size) low high
    (subst (λ ps. get_or ps (get_or old.letters place 0) 0 ≡ count) same c.exchange.ensures.first)
    (subst (λ ps. get_or ps (get_or old.letters count 0) 0 ≡ place) same c.exchange.ensures.second)
    (subst (λ ps. (x : ℕ) → x ≢ get_or old.letters place 0 → x ≢ get_or old.letters count 0 → get_or ps x 0 ≡ get_or old.places x 0)
    same c.exchange.ensures.others)
    c.args.letter c.requires.known stands count_is above (ap (λ n. n + 1) count_is)
