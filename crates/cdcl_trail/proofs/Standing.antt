-- Where the literals of a trail stand, and by which reasons.
use Rattle.std.proofs.Common.{◌≡◌, ℕ, ◌<◌, ◌≤◌, ◌⊎◌, inl, inr, List, Bool, Option, Some, Contains, length, get_or, sym, ◌∙◌, subst, arith, ◌≢◌, true, false}
use Rattle.std.proofs.Common.{not, take, ap, length-take-le, IfSome}
use Rattle.std.proofs.lemmas.List.{get_or-map, length-map, get_or-take}
use Rattle.cnf_base.specs.declared.literal.Literal.{Literal}
use Rattle.cnf_base.specs.declared.literal.Hint.{Hint}
use Rattle.cnf_base.specs.Literal.{opposite}
use Rattle.cdcl_trail.specs.Trail.{literals_of, AreValues, IsReason, blank_entry, literal_at, IsTrail, HasLevel}
use Rattle.cdcl_trail.specs.declared.assigned.TrailEntry.{TrailEntry}
use Rattle.std.proofs.lemmas.Bool.{cases_lt}
use Rattle.cdcl_trail.proofs.Bridge.{true_value, false_value}

-- a true literal stands at a place of the trail
pub place_of : (trail : List TrailEntry) (l : Literal) → Contains (literals_of trail) l → (k : ℕ) × (k < length trail) × (literal_at trail k ≡ l)
place_of trail l (k, low, is) =
    let below : k < length trail = omega (arith, low, length-map trail (λ (e : TrailEntry). e.literal)) in
    (k, below, sym (get_or-map (λ (e : TrailEntry). e.literal) trail k blank_entry l below) ∙ is)

-- a true literal of the trail's first k stands at a place below k
pub true_place : (trail : List TrailEntry) (k : ℕ) (m : Literal) → k ≤ length trail → Contains (literals_of (take k trail)) m
    → (j : ℕ) × (j < k) × (literal_at trail j ≡ m)
true_place trail k m within (j, below, is) =
    let low : j < k = omega (arith, below, length-map (take k trail) (λ (e : TrailEntry). e.literal), length-take-le k trail within) in
    let low_take : j < length (take k trail) = omega (arith, length-take-le k trail within) in (
      j,
      low,
      ap (λ (e : TrailEntry). e.literal) (sym (get_or-take k trail j blank_entry low))
          ∙ sym (get_or-map (λ (e : TrailEntry). e.literal) (take k trail) j blank_entry m low_take) ∙ is,
    )

-- two places of the trail have different letters
pub places_apart : (values : List (Option Bool)) (trail : List TrailEntry) → AreValues values trail → (i j : ℕ) → i < length trail → j < length trail
    → i ≢ j → (literal_at trail i).letter.0 ≢ (literal_at trail j).letter.0
places_apart values trail are i j ilow jlow differ same = elim (cases_lt i j) [
  | inl below ↦ are.apart i j blank_entry below jlow same
  | inr above ↦ are.apart j i blank_entry (omega (arith, differ)) ilow (sym same)
]

-- no literal is true beside its opposite
pub not_both : (values : List (Option Bool)) (trail : List TrailEntry) → AreValues values trail → (l : Literal) → Contains (literals_of trail) l
    → ¬ Contains (literals_of trail) (opposite l)
not_both values trail are l here there =
    let e = sym (true_value values trail are l here) ∙ (false_value values trail are l there).is in
    go l.negated e
  where
    go : (n : Bool) → ¬ (Some (not n) ≡ Some n)
    go true e = cc
    go false e = cc

-- the reason that the entry at k names
pub reason_at : (inputs lines : List (List Literal)) (trail : List TrailEntry) (k : ℕ) (hint : Hint) → IsTrail inputs lines trail → k < length trail
    → (get_or trail k blank_entry).reason ≡ Some hint
    → IsReason inputs lines (literals_of (take k trail)) (literal_at trail k) hint
reason_at inputs lines trail k hint is_trail low is =
    let here = (is_trail k blank_entry low).reason in
    (subst (λ o. IfSome o (λ h. IsReason inputs lines (literals_of (take k trail)) (literal_at trail k) h × ((get_or trail k blank_entry).level
    ≤ length (take k trail)) × (((get_or trail k blank_entry).level ≡ 0) ⊎ HasLevel (take k trail) (get_or trail k blank_entry).level))) is here).0
