use Rattle.std.proofs.Common.{◌≡◌, ◌<◌, ◌+◌, ◌-◌, ◌++◌, ◌∷◌, [], length, not, Some, None, sym, ap, ap₂, ◌∙◌, subst, arith}
use Rattle.std.proofs.lemmas.List.{take_more, take_all}
use Rattle.cdcl_trail.specs.Trail.{AreValues, blank_entry}
use Rattle.cdcl_trail.specs.Assigned.{ArePlaces, AssignedValue}
use Rattle.cdcl_trail.specs.Values.{value_at}
use Rattle.cdcl_trail.specs.declared.assigned.TrailEntry.{TrailEntry}
use Rattle.cdcl_trail.proofs.Assign.{values_pop}
use Rattle.cdcl_trail.proofs.Places.{places_pop}
use Rattle.cdcl_trail.proofs.assigned.Assigned.undo.Goals as goal

pub invariant_of-self : goal.invariant_of-self
invariant_of-self c =
    let values = c.self.inside.values in
    let trail = c.self.inside.trail in
    let rest = c.truncate.new.self in
    let entry = c.get.result in
    let n = c.len-count.result - 1 in
    let same : length c.args.self.now.trail ≡ length trail = ap (λ (a : AssignedValue). length a.trail) (sym c.self.view_is) in
    let low : n < length trail = omega (arith, c.requires, same) in
    let whole : trail ≡ rest ++ entry ∷ [] =
    sym (take_all (n + 1) trail (omega (arith, low))) ∙ take_more trail n blank_entry low
    ∙ ap₂ (λ ts e. ts ++ e ∷ []) (sym c.truncate.ensures) (sym c.get.ensures) in
    rw c.clear.ensures (
      values_pop values rest entry (subst (AreValues values) whole c.self.invariant.0),
      places_pop c.self.inside.places.items values rest entry entry.literal.letter.0 None
          (subst (ArePlaces c.self.inside.places.items values) whole c.self.invariant.1),
    )

-- what is taken off was true
pub clear-requires-clause-holds : goal.clear-requires-clause-holds
clear-requires-clause-holds c =
    let values = c.self.inside.values in
    let trail = c.self.inside.trail in
    let n = c.len-count.result - 1 in
    let same : length c.args.self.now.trail ≡ length trail = ap (λ (a : AssignedValue). length a.trail) (sym c.self.view_is) in
    subst (λ (e : TrailEntry). value_at values e.literal.letter.0 ≡ Some (not e.literal.negated)) (sym c.get.ensures)
    (c.self.invariant.0.true_on n blank_entry (omega (arith, c.requires, same)))
