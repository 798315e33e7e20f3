use Rattle.std.proofs.Common.{◌≡◌, ◌<◌, length, set, suc, ◌+◌, [], false, refl, sym, ◌∙◌, subst, arith}
use Rattle.std.proofs.lemmas.List.{get_or_default}
use Rattle.ltl_syntax.specs.declared.node.Node.TheVariants as nodes
use Rattle.past_monitor.specs.declared.part.Part.{Part}
use Rattle.past_monitor.specs.Part.{AreSteppedTo, IsValue, no_ring, part_at, part_after}
use Rattle.past_monitor.proofs.Parts.{stepped}
use Rattle.past_monitor.proofs.monitor.step_parts.Goals as goal

pub loop-place-preserved : goal.loop-place-preserved
loop-place-preserved c =
    let place = c.loop-place.place in
    let parts = c.loop-place.parts.items in
    let values = c.loop-place.values.items in
    let state = c.args.state.now in
    let is = c.loop-place.invariant.done in
    let p = c.index_mut.result.now in
    let v = c.take-value.result in
    let one : suc place ≡ place + 1 = omega arith in
    let low : place < length parts = omega (arith, c.loop-place-test.true, is.long) in
    let here : p ≡ part_at parts place =
    c.index_mut.ensures.value ∙ sym (get_or_default parts place (record { node = nodes.Const false; name = []; kept = no_ring [] }) p low) in
    let valued = subst (λ (x : Part). IsValue state values x.node x.name x.kept v) here
    (subst (λ vs. IsValue state vs p.node p.name p.kept v) c.deref.ensures.value c.take-value.ensures.value) in
    let after = subst (λ (x : Part). c.take-value.new.self ≡ part_after values v x) here
    (subst (λ vs. c.take-value.new.self ≡ part_after vs v p) c.deref.ensures.value c.take-value.ensures.kept) in
    let done =
    subst (λ k. AreSteppedTo k state c.args.parts.now.items (set parts place c.take-value.new.self) (set values place v)) one
    (stepped state c.args.parts.now.items parts (set parts place c.take-value.new.self) values (set values place v)
    place c.take-value.new.self v c.requires.below (omega (arith, low, is.long)) is valued after refl refl) in
    record { done = done; parts = c.loop-place.invariant.parts; values = c.loop-place.invariant.values }
