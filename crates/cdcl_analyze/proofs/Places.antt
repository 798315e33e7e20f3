-- Where a letter stands on the trail.
use Rattle.std.proofs.Common.{◌≡◌, ℕ, ◌<◌, ◌≤◌, inl, inr, List, Bool, Option, Some, length, get_or, sym, ap, ◌∙◌, subst, arith}
use Rattle.std.proofs.lemmas.Bool.{cases_lt, cases_eq}
use Rattle.std.proofs.lemmas.List.{get_or_default}
use Rattle.cnf_base.specs.declared.literal.Hint.{Hint}
use Rattle.cdcl_trail.specs.Trail.{blank_entry, literal_at, AreValues}
use Rattle.cdcl_trail.specs.declared.assigned.TrailEntry.{TrailEntry}
use Rattle.cdcl_trail.proofs.Standing.{places_apart}
use Rattle.cdcl_analyze.specs.Consequences.{StandsBelow, HasReason}

-- a letter that stands there is known
pub stands_known : (values : List (Option Bool)) (trail : List TrailEntry) (letter : ℕ) → AreValues values trail → StandsBelow trail (length trail) letter
    → letter < length values
stands_known values trail letter are (p, low, is) = subst (λ x. x < length values) is (are.known p blank_entry low)

-- what stands below an end stands below each later one
pub stands_before : (trail : List TrailEntry) (end more letter : ℕ) → end ≤ more → StandsBelow trail end letter → StandsBelow trail more letter
stands_before trail end more letter fits (p, low, is) = (p, omega (arith, low, fits), is)

-- it stands at one place alone
pub same_place : (values : List (Option Bool)) (trail : List TrailEntry) → AreValues values trail → (i j : ℕ) → i < length trail → j < length trail
    → (literal_at trail i).letter.0 ≡ (literal_at trail j).letter.0 → i ≡ j
same_place values trail are i j ilow jlow same = elim (cases_eq i j) [
  | inl is ↦ is
  | inr differ ↦ absurd (places_apart values trail are i j ilow jlow differ same)
]

-- a letter that stands below an end has its place there
pub place_below : (values : List (Option Bool)) (trail : List TrailEntry) → AreValues values trail → (place end letter : ℕ) → place < length trail
    → (literal_at trail place).letter.0 ≡ letter → StandsBelow trail end letter → place < end
place_below values trail are place end letter inside is (p, low, p_is) = elim (cases_lt p (length trail)) [
  | inl p_inside ↦ let same = same_place values trail are place p inside p_inside (is ∙ sym p_is) in omega (arith, same, low)
  | inr high ↦ omega (arith, high, low, inside)
]

-- the entry at its place tells its reason
pub reason_here : (trail : List TrailEntry) (base letter place : ℕ) (e : TrailEntry) (hint : Hint)
    → ((k : ℕ) → k < length trail → (literal_at trail k).letter.0 ≡ letter → place ≡ k)
    → StandsBelow trail (length trail) letter → base ≤ place → e ≡ get_or trail place e → e.reason ≡ Some hint → HasReason trail base letter hint
reason_here trail base letter place e hint place_is (p, low, is) high entry reason =
    let same = place_is p low is in
    record {
      place = p;
      high = omega (arith, high, same);
      inside = low;
      is = is;
      reason_is =
          ap (λ (f : TrailEntry). f.reason) (get_or_default trail p blank_entry e low ∙ subst (λ (k : ℕ). get_or trail k e ≡ e) same (sym entry)) ∙ reason;
    }
