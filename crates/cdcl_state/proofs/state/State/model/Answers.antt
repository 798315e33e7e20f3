use Rattle.std.proofs.Common.{◌≡◌, ◌↔◌, ◌⊎◌, ◌<◌, ◌+◌, true, Contains, length, get_or, take, replicate, sym, ap, ◌∙◌, subst, arith}
use mathlib.Core.Bool.{false}
use Rattle.std.proofs.lemmas.List.{length-replicate, get_or_default, take_all}
use Rattle.cdcl_trail.specs.Trail.{literals_of, literal_at, blank_entry}
use Rattle.cdcl_trail.specs.declared.assigned.TrailEntry.{TrailEntry}
use Rattle.cdcl_state.specs.StateValue.{StateValue, positive}
use Rattle.cdcl_state.proofs.Room.{model_more, model_none}
use Rattle.cdcl_state.proofs.state.State.model.Goals as goal

pub loop-place-init : goal.loop-place-init
loop-place-init c =
    let letters : c.self.inside.letters ≡ c.args.self.now.letters = ap (λ (s : StateValue). s.letters) c.self.view_is in
    let items : c.in_ok-model.model.items ≡ replicate (c.self.inside.letters + 1) false = c.in_ok-model.ensures.items_if_clones_equal (λ y h. h) in
    record {
      size = omega (arith, ap length items, length-replicate (c.self.inside.letters + 1) false, letters);
      told = λ x low. subst (λ m. (get_or m x false ≡ true) ↔ Contains (literals_of (take 0 c.args.self.now.trail)) (positive x)) (sym items)
          (model_none c.args.self.now.trail (c.self.inside.letters + 1) x);
    }

pub loop-place-preserved : goal.loop-place-preserved
loop-place-preserved c =
    let trail = c.args.self.now.trail in
    let place = c.loop-place.place in
    let old = c.loop-place.model.items in
    let new = c.set_true.new.model.items in
    let below : place < length c.self.inside.assigned.trail = omega (arith, c.loop-place-test.true, c.len-place-end.ensures) in
    let same : c.self.inside.assigned.trail ≡ trail = ap (λ (s : StateValue). s.trail) c.self.view_is in
    let inside : place < length trail = omega (arith, below, ap length same) in
    let at : c.entry.result ≡ get_or trail place blank_entry =
    c.entry.ensures ∙ get_or_default c.self.inside.assigned.trail place _ blank_entry below ∙ ap (λ t. get_or t place blank_entry) same in
    let literal_is : c.entry.result.literal ≡ literal_at trail place = ap (λ (e : TrailEntry). e.literal) at in
    record {
      size = omega (arith, c.set_true.ensures.size, c.loop-place.invariant.size);
      told = model_more trail old new place (c.args.self.now.letters + 1) inside
          (λ x low. subst (λ l. (get_or new x false ≡ true) ↔ ((get_or old x false ≡ true) ⊎ (l ≡ positive x))) literal_is
          (c.set_true.ensures.told x (omega (arith, low, c.loop-place.invariant.size))))
          c.loop-place.invariant.told;
    }

pub returns : goal.returns
returns c =
    let trail = c.args.self.now.trail in
    let same : c.self.inside.assigned.trail ≡ trail = ap (λ (s : StateValue). s.trail) c.self.view_is in
    let whole : take c.loop-place.place trail ≡ trail =
    take_all c.loop-place.place trail (omega (arith, c.loop-place-test.false, c.len-place-end.ensures, ap length same)) in
    record {
      size = c.loop-place.invariant.size;
      told = λ x from_one within. subst (λ t. (get_or c.loop-place.model.items x false ≡ true) ↔ Contains (literals_of t) (positive x)) whole
          (c.loop-place.invariant.told x (omega (arith, within)));
    }
