-- The letters of entries that come off the trail may be decided again.
use Rattle.std.proofs.Common.{◌≡◌, ℕ, ◌<◌, ◌≤◌, ◌+◌, ◌⊎◌, ◌↔◌, inl, inr, List, length, get_or, sym, ap, ◌∙◌, arith}
use Rattle.std.proofs.lemmas.Bool.{cases_eq}
use Rattle.cdcl_activity.specs.Order.{IsWaiting}
use Rattle.cdcl_activity.specs.Choices.{ChoicesValue, IsOffered}
use Rattle.cdcl_trail.specs.Trail.{blank_entry, literal_at}
use Rattle.cdcl_trail.specs.declared.assigned.TrailEntry.{TrailEntry}
use Rattle.cdcl_state.specs.Turns.{IsReleased}

-- the letter of one entry more
pub released_more : (trail : List TrailEntry) (from k : ℕ) (first old new : ChoicesValue) (e : TrailEntry) (x : ℕ) → from ≤ k → e ≡ get_or trail k blank_entry
    → length old.order.places ≡ length first.order.places
    → (IsWaiting old.order x ↔ (IsReleased trail from k first x ⊎ IsWaiting first.order x))
    → (IsWaiting new.order x ↔ (IsOffered old x e.literal.letter.0 ⊎ IsWaiting old.order x))
    → IsWaiting new.order x ↔ (IsReleased trail from (k + 1) first x ⊎ IsWaiting first.order x)
released_more trail from k first old new e x on e_is same before step = (
  (λ h. elim (step.0 h) [
    | inl offered ↦ inl (record {
      place = k;
      on = on;
      below = omega arith;
      offered = record {
        is = offered.is ∙ letter_is;
        known = omega (arith, offered.known, same, letter_is);
      };
    })
    | inr waits ↦ elim (before.0 waits) [
      | inl r ↦ inl (record { place = r.place; on = r.on; below = omega (arith, r.below); offered = r.offered })
      | inr first_waits ↦ inr first_waits
    ]
  ]),
  (λ h. elim h [
    | inl r ↦ elim (cases_eq r.place k) [
      | inl at ↦
          let is : x ≡ e.literal.letter.0 = r.offered.is ∙ ap (λ p. (literal_at trail p).letter.0) at ∙ sym letter_is in
          step.1 (inl (record { is = is; known = omega (arith, r.offered.known, same, is, r.offered.is) }))
      | inr other ↦ step.1 (inr (before.1 (inl (record { place = r.place; on = r.on; below = omega (arith, r.below, other); offered = r.offered }))))
    ]
    | inr first_waits ↦ step.1 (inr (before.1 (inr first_waits)))
  ]),
)
  where
    letter_is : e.literal.letter.0 ≡ (literal_at trail k).letter.0
    letter_is = ap (λ (f : TrailEntry). f.literal.letter.0) e_is

-- where all places were gone over, or there were none
pub released_all : (trail : List TrailEntry) (from to len : ℕ) (first new : ChoicesValue) (x : ℕ) → len ≤ to → (from ≡ to) ⊎ (to ≤ len)
    → (IsWaiting new.order x ↔ (IsReleased trail from to first x ⊎ IsWaiting first.order x))
    → IsWaiting new.order x ↔ (IsReleased trail from len first x ⊎ IsWaiting first.order x)
released_all trail from to len first new x long at all = (
  (λ h. elim (all.0 h) [
    | inl r ↦ inl (record { place = r.place; on = r.on; below = within r at; offered = r.offered })
    | inr waits ↦ inr waits
  ]),
  (λ h. elim h [
    | inl r ↦ all.1 (inl (record { place = r.place; on = r.on; below = omega (arith, r.below, long); offered = r.offered }))
    | inr waits ↦ all.1 (inr waits)
  ]),
)
  where
    within : (r : IsReleased trail from to first x) → (from ≡ to) ⊎ (to ≤ len) → r.place < len
    within r (inl same) = absurd (omega (arith, same, r.on, r.below))
    within r (inr low) = omega (arith, low, r.below)
