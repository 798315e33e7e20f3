-- What is left where one was taken off a list: the others, in their order.
use Rattle.std.proofs.Common.{◌≡◌, ◌≢◌, ℕ, ◌<◌, ◌≤◌, ◌+◌, ◌-◌, ◌⊎◌, inl, inr, List, Contains, length, get_or, refl, sym, ap, ◌∙◌, arith}
use Rattle.std.specs.List.{remove}
use Rattle.std.proofs.lemmas.Bool.{cases_lt, cases_eq}
use Rattle.std.proofs.lemmas.List.Edits.{length-remove, get_or-remove_below, get_or-remove_above}
use Rattle.std.proofs.lemmas.List.Quantifiers.{all_pairs_remove}
use Rattle.cdcl_watches.specs.Watching.{AreApart}

module _ {X : Type 0} (xs : List X) (i : ℕ) (within : i < length xs) where
  pub length-removed : length (remove xs i) + 1 ≡ length xs
  length-removed = length-remove xs i within

  -- what stands at a place now stood at one before
  pub place_before : (j : ℕ) → j < length xs - 1
      → (k : ℕ) × (k < length xs) × (k ≢ i) × ((d : X) → get_or (remove xs i) j d ≡ get_or xs k d) × (((k ≡ j) × (j < i)) ⊎ ((k ≡ j + 1) × (i ≤ j)))
  place_before j below = elim (cases_lt j i) [
    | inl front ↦ (j, omega arith, (λ e. omega (arith, e, front)), (λ d. get_or-remove_below xs i d j front within), inl (refl, front))
    | inr back ↦ (j + 1, omega arith, (λ e. omega (arith, e, back)), (λ d. get_or-remove_above xs i d j back within), inr (refl, back))
  ]

  pub removed_from : (y : X) → Contains (remove xs i) y → Contains xs y
  removed_from y (j, low, is) =
      let before = place_before j (omega (arith, low, length-removed)) in
      (before.0, before.1, sym (before.3 y) ∙ is)

  pub apart_removed : AreApart xs → AreApart (remove xs i)
  apart_removed apart = all_pairs_remove (λ (a : X) b. a ≢ b) xs i within apart

  -- the one that was taken off is gone
  pub removed_gone : AreApart xs → (y : X) → get_or xs i y ≡ y → ¬ Contains (remove xs i) y
  removed_gone apart y is (j, low, at) =
      let p = place_before j (omega (arith, low, length-removed)) in
      let same : get_or xs p.0 y ≡ get_or xs i y = sym (p.3 y) ∙ at ∙ sym is in
      elim (cases_lt p.0 i) [
        | inl lt ↦ apart p.0 i y lt within same
        | inr ge ↦ apart i p.0 y (omega (arith, p.2)) p.1 (sym same)
      ]

  -- the others stay
  pub others_stay : (y : X) → y ≢ get_or xs i y → Contains xs y → Contains (remove xs i) y
  others_stay y differ (k, low, is) = elim (cases_lt k i) [
    | inl front ↦ (k, omega (arith, length-removed), get_or-remove_below xs i y k front within ∙ is)
    | inr back ↦ elim (cases_eq k i) [
      | inl same ↦ absurd (differ (sym is ∙ ap (λ n. get_or xs n y) same))
      | inr other ↦
          let on : k - 1 + 1 ≡ k = omega (arith, back, other) in (
            k - 1,
            omega (arith, length-removed, back, other),
            get_or-remove_above xs i y (k - 1) (omega (
              arith,
              back,
              other,
            )) within ∙ ap (λ n. get_or xs n y) on ∙ is,
          )
    ]
  ]
