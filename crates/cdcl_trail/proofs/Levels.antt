-- The levels along a trail.
use Rattle.std.proofs.Common.{◌≡◌, ◌≢◌, ℕ, ◌<◌, ◌≤◌, ◌+◌, ◌⊎◌, inl, inr, List, Option, Some, None, take, All, length, get_or, refl, sym, ap, ◌∙◌, subst, arith}
use Rattle.std.proofs.Common.{IfSome, length-take-le, ◌-◌}
use Rattle.std.proofs.lemmas.Bool.{cases_lt}
use Rattle.std.proofs.lemmas.List.{get_or-take}
use Rattle.cnf_base.specs.declared.literal.Literal.{Literal}
use Rattle.cnf_base.specs.declared.literal.Hint.{Hint}
use Rattle.cdcl_trail.specs.Trail.{literals_of, HasLevel, IsReason, IsTrail, blank_entry, IsDecision, StandsAt}
use Rattle.cdcl_trail.specs.declared.assigned.TrailEntry.{TrailEntry}

abbrev pub level_at : List TrailEntry → ℕ → ℕ
level_at trail k = (get_or trail k blank_entry).level

-- levels rise along the trail
pub levels_rise : (inputs lines : List (List Literal)) (trail : List TrailEntry) → IsTrail inputs lines trail → (i j : ℕ) → i < j → j < length trail
    → level_at trail i ≤ level_at trail j
levels_rise inputs lines trail is_trail i j earlier below =
    let h = (is_trail j blank_entry below).rising i blank_entry (omega (arith, length-take-le j trail (omega arith))) in
    subst (λ (e : TrailEntry). e.level ≤ level_at trail j) (get_or-take j trail i blank_entry earlier) h

-- the level of the last entry is the greatest
pub top_last : (inputs lines : List (List Literal)) (trail : List TrailEntry) (n : ℕ) → IsTrail inputs lines trail → n < length trail
    → level_at trail n ≡ level_at trail (length trail - 1) → (k : ℕ) → k < length trail → level_at trail k ≤ level_at trail n
top_last inputs lines trail n is_trail within same k low = elim (cases_lt k (length trail - 1)) [
  | inl front ↦ omega (arith, levels_rise inputs lines trail is_trail k (length trail - 1) front (omega arith), same)
  | inr back ↦ let last : k ≡ length trail - 1 = omega arith in omega (arith, ap (level_at trail) last, same)
]

-- a decision has the level of its place
pub decision_level : (inputs lines : List (List Literal)) (trail : List TrailEntry) → IsTrail inputs lines trail → (p : ℕ) → IsDecision trail p
    → level_at trail p ≡ p + 1
decision_level inputs lines trail is_trail p decision =
    (is_trail p blank_entry decision.within).decision decision.free ∙ ap (λ n. n + 1) (length-take-le p trail (omega (arith, decision.within)))

-- a trail whose levels are 0 has no decisions
pub no_decisions : (inputs lines : List (List Literal)) (trail : List TrailEntry) → IsTrail inputs lines trail → All (λ e. e.level ≤ 0) trail
    → All (λ e. e.reason ≢ None) trail
no_decisions inputs lines trail is_trail low k d below free = omega (arith, low k d below, (is_trail k d below).decision free)

-- a level is at most one more than its place
pub level_bound : (inputs lines : List (List Literal)) (trail : List TrailEntry) → IsTrail inputs lines trail → (p n : ℕ) → p < n → n ≤ length trail → (b : ℕ)
    → level_at trail p ≡ b → b ≤ n
level_bound inputs lines trail is_trail p n low short b is = omega (arith, sym is, small (get_or trail p blank_entry).reason refl)
  where
    here : StandsAt inputs lines (take p trail) (get_or trail p blank_entry)
    here = is_trail p blank_entry (omega arith)

    before : length (take p trail) ≡ p
    before = length-take-le p trail (omega arith)

    small : (o : Option Hint) → (get_or trail p blank_entry).reason ≡ o → level_at trail p ≤ p + 1
    small None free = omega (arith, here.decision free, before)
    small (Some h) forced =
        let e = get_or trail p blank_entry in
        let told = subst (λ o. IfSome o (λ h. IsReason inputs lines (literals_of (take p trail)) e.literal h × (e.level ≤ length (take p trail))
        × ((e.level ≡ 0) ⊎ HasLevel (take p trail) e.level))) forced here.reason in
        omega (arith, told.1, before)
