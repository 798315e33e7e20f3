use Rattle.std.proofs.Common.{◌≡◌, ℕ, ◌<◌, false, List, ◌++◌, ◌∷◌, [], length, get_or, ◌∙◌, sym, ap, arith}
use Rattle.std.proofs.lemmas.List.{get_or-map, length-map}
use Rattle.ltl_closure.specs.Norm.{NConst}
use Rattle.ltl_closure.specs.Closure.{closure, nexts}
use Rattle.ltl_closure.specs.Entries.{place_in, entry_at}
use Rattle.demand.specs.Entries.{is_strong_by}
use Rattle.demand.proofs.Operands.{strong_without, strong_with}
use Rattle.demand.proofs.entries.strong.Goals as goal
use Rattle.demand.proofs.entries.strong.Goals.{then-is_strong+in_ok-push, else-is_strong}

pub loop-number-preserved : goal.loop-number-preserved
loop-number-preserved c =
    let names = c.args.closure.now.names in
    let f = c.args.closure.now.formula in
    let entries = c.args.closure.now.entries in
    let i = c.loop-number.number-index in
    let numbers = c.nexts-number-items.result.now in
    let are = c.nexts-number-items.ensures.numbers in
    let t = get_or numbers i 0 in
    let lt : i < length (nexts f) = omega (arith, c.loop-number-test.true, ap length are, length-map (nexts f) (place_in (closure f))) in
    let is : t ≡ place_in (closure f) (get_or (nexts f) i (NConst false)) =
    ap (λ (ns : List ℕ). get_or ns i 0) are
    ∙ get_or-map (place_in (closure f)) (nexts f) i (NConst false) 0 lt in
    let entry : is_strong_by (entry_at entries t) ≡ c.is_strong.result = sym (ap is_strong_by c.entry.ensures.entry) ∙ sym c.is_strong.ensures in
    elim c.if-is_strong.branch [
      | then-is_strong+in_ok-push w ↦
          ap (λ ns. ns.items) w.numbers-is
          ∙ (w.in_ok-push.ensures.items
          ∙ (ap (λ ns. ns ++ t ∷ []) c.loop-number.invariant
          ∙ strong_with names f entries c.entry.ensures.closure i lt t is (entry ∙ w.if-is_strong.true)))
      | else-is_strong w ↦
          ap (λ ns. ns.items) w.numbers-is
          ∙ (c.loop-number.invariant
          ∙ strong_without names f entries c.entry.ensures.closure i lt t is (entry ∙ w.if-is_strong.false))
    ]
