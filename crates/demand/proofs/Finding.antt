-- What is found at the greatest number at which something is.
use Rattle.std.proofs.Common.{◌≡◌, zero, suc, ◌-◌, ◌<◌, Bool, true, false, IsTrue, IsFalse, List, [], ◌∷◌, ◌++◌, Contains, ◌⊎◌, inl, inr, refl, arith, ap, ℕ}
use Rattle.std.proofs.Common.{ap₂, subst, sym, ◌∙◌, Option, Some, None, if◌then◌else◌}
use Rattle.std.proofs.lemmas.Bool.{cases_lt}
use Rattle.std.proofs.lemmas.List.Elements.{Contains-append_cases}
use Rattle.ltl_closure.proofs.Lists.{Contains-nil, Contains-cons_cases}
use Rattle.demand.specs.Nearest.{prefer, nearest, with_found, all_found, where_true}

module _ {X : Type 0} where
  pub some_same : (a b : X) → Some a ≡ Some b → a ≡ b
  some_same a b e = cc

  pub some_none : (a : X) → Some a ≡ None → ⊥
  some_none a e = cc

  pub none_or_some : (o : Option X) → (o ≡ None) ⊎ ((x : X) × (o ≡ Some x))
  none_or_some (Some x) = inr (x, refl)
  none_or_some None = inl refl

  prefer_some : (o p : Option X) (x : X) → prefer o p ≡ Some x → (o ≡ Some x) ⊎ (p ≡ Some x)
  prefer_some (Some y) p x h = inl h
  prefer_some None p x h = inr h

  prefer_none : (o p : Option X) → prefer o p ≡ None → (o ≡ None) × (p ≡ None)
  prefer_none (Some y) p h = absurd (some_none y h)
  prefer_none None p h = (refl, h)

  pub nearest_found : (n : ℕ) (found : ℕ → Option X) (x : X) → nearest n found ≡ Some x → (i : ℕ) × (i < n) × (found i ≡ Some x)
  nearest_found zero found x h = cc
  nearest_found (suc n) found x h = elim (prefer_some (found n) (nearest n found) x h) [
    | inl here ↦ (n, omega arith, here)
    | inr before ↦ let w = nearest_found n found x before in (w.0, omega (arith, w.1), w.2)
  ]

  pub nearest_none : (n : ℕ) (found : ℕ → Option X) → nearest n found ≡ None → (i : ℕ) → i < n → found i ≡ None
  nearest_none zero found h i lt = absurd (omega arith)
  nearest_none (suc n) found h i lt =
      let w = prefer_none (found n) (nearest n found) h in
      elim (cases_lt i n) [
        | inl before ↦ nearest_none n found w.1 i before
        | inr here ↦ let e : n ≡ i = omega arith in subst (λ j. found j ≡ None) e w.0
      ]

  pub where_some : (b : Bool) (o : Option X) (x : X) → where_true b o ≡ Some x → IsTrue b × (o ≡ Some x)
  where_some true o x h = (refl, h)
  where_some false o x h = cc

  pub where_none : (b : Bool) (o : Option X) → where_true b o ≡ None → IsTrue b → o ≡ None
  where_none true o h t = h
  where_none false o h t = cc

  pub if_cases : (b : Bool) (x y z : Option X) → (if b then x else y) ≡ z → (IsTrue b × (x ≡ z)) ⊎ (IsFalse b × (y ≡ z))
  if_cases true x y z h = inl (refl, h)
  if_cases false x y z h = inr (refl, h)

  -- what is found in order
  no_append : (xs : List X) (x : X) → xs ++ x ∷ [] ≡ [] → ⊥
  no_append [] x h = cc
  no_append (y ∷ ys) x h = cc

  with_none : (xs : List X) (o : Option X) → with_found xs o ≡ [] → (xs ≡ []) × (o ≡ None)
  with_none xs (Some x) h = absurd (no_append xs x h)
  with_none xs None h = (h, refl)

  pub all_none : (n : ℕ) (found : ℕ → Option X) → all_found n found ≡ [] → (i : ℕ) → i < n → found i ≡ None
  all_none zero found h i lt = absurd (omega arith)
  all_none (suc n) found h i lt =
      let w = with_none (all_found n found) (found n) h in
      elim (cases_lt i n) [
        | inl before ↦ all_none n found w.0 i before
        | inr here ↦ let e : n ≡ i = omega arith in subst (λ j. found j ≡ None) e w.1
      ]

  pub none_all : (n : ℕ) (found : ℕ → Option X) → ((i : ℕ) → i < n → found i ≡ None) → all_found n found ≡ []
  none_all zero found h = refl
  none_all (suc n) found h = ap₂ with_found (none_all n found (λ i lt. h i (omega arith))) (h n (omega arith))

  pub found_same : (n : ℕ) (found other : ℕ → Option X) → ((i : ℕ) → i < n → found i ≡ other i) → all_found n found ≡ all_found n other
  found_same zero found other h = refl
  found_same (suc n) found other h = ap₂ with_found (found_same n found other (λ i lt. h i (omega arith))) (h n (omega arith))

  with_member : (xs : List X) (o : Option X) (x : X) → Contains (with_found xs o) x → Contains xs x ⊎ (o ≡ Some x)
  with_member xs (Some y) x h = elim (Contains-append_cases xs (y ∷ []) x h) [
    | inl before ↦ inl before
    | inr last ↦ elim (Contains-cons_cases y [] x last) [
      | inl e ↦ inr (ap (λ z. Some z) e)
      | inr none ↦ absurd (Contains-nil x none)
    ]
  ]
  with_member xs None x h = inl h

  pub all_member : (n : ℕ) (found : ℕ → Option X) (x : X) → Contains (all_found n found) x → (i : ℕ) × (i < n) × (found i ≡ Some x)
  all_member zero found x h = absurd (Contains-nil x h)
  all_member (suc n) found x h = elim (with_member (all_found n found) (found n) x h) [
    | inl before ↦ let w = all_member n found x before in (w.0, omega (arith, w.1), w.2)
    | inr here ↦ (n, omega arith, here)
  ]

  pub nearest_same : (n : ℕ) (found other : ℕ → Option X) → ((i : ℕ) → i < n → found i ≡ other i) → nearest n found ≡ nearest n other
  nearest_same zero found other h = refl
  nearest_same (suc n) found other h = ap₂ prefer (h n (omega arith)) (nearest_same n found other (λ i lt. h i (omega arith)))

  -- a step of a walk downward
  pub nearest_here : (n : ℕ) (found : ℕ → Option X) (x : X) → 0 < n → found (n - 1) ≡ Some x → nearest n found ≡ Some x
  nearest_here zero found x lt h = absurd (omega arith)
  nearest_here (suc n) found x lt h = let e : suc n - 1 ≡ n = omega arith in ap (λ o. prefer o (nearest n found)) (subst (λ j. found j ≡ Some x) e h)

  pub nearest_past : (n : ℕ) (found : ℕ → Option X) → 0 < n → found (n - 1) ≡ None → nearest n found ≡ nearest (n - 1) found
  nearest_past zero found lt h = absurd (omega arith)
  nearest_past (suc n) found lt h =
      let e : n ≡ suc n - 1 = omega arith in
      ap (λ o. prefer o (nearest n found)) (subst (λ j. found j ≡ None) (sym e) h) ∙ ap (λ j. nearest j found) e
