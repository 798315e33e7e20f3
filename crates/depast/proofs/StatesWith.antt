-- A state with given truth values of the new names.
use Rattle.std.proofs.Common.{◌≡◌, ℕ, zero, suc, ◌<◌, ◌≤◌, ◌^◌, ◌⊎◌, inl, inr, ◌↔◌, refl, sym, subst, arith, List, [], ◌∷◌, ◌++◌, Contains}
use Rattle.std.proofs.lemmas.Bool.{cases_lt}
use Rattle.std.proofs.lemmas.List.Elements.{Contains-append_left, Contains-append_right, Contains-append_cases}
use Rattle.ltl_syntax.specs.Formula.{Formula}
use Rattle.ltl_word.specs.Trace.{Names}
use Rattle.depast.specs.Names.{most_leading, new_name}
use Rattle.depast.specs.Depast.{taken}
use Rattle.depast.specs.Lifting.{IsOld}
use Rattle.ltl_syntax.proofs.Members.{Contains-nil, Contains-cons_cases, Contains-here, Contains-there}
use Rattle.depast.proofs.Telling.{one_number, old_decided}

module _ (f : Formula) where
  -- the old names of a state
  keep_if : (name : List ℕ) → Dec (IsOld f name) → Names → Names
  keep_if name (yes old) rest = name ∷ rest
  keep_if name (no new) rest = rest

  pub kept : Names → Names
  kept [] = []
  kept (name ∷ rest) = keep_if name (old_decided f name) (kept rest)

  keep_cases : (x : List ℕ) (d : Dec (IsOld f x)) (rest : Names) (name : List ℕ) → Contains (keep_if x d rest) name
      → ((x ≡ name) × IsOld f x) ⊎ Contains rest name
  unfolding keep_if
  keep_cases x (yes old) rest name h = elim (Contains-cons_cases x rest name h) [ inl e ↦ inl (e, old) | inr r ↦ inr r ]
  keep_cases x (no new) rest name h = inr h

  pub kept_from : (names : Names) (name : List ℕ) → Contains (kept names) name → Contains names name × IsOld f name
  unfolding kept
  kept_from [] name h = absurd (Contains-nil name h)
  kept_from (x ∷ names) name h = elim (keep_cases x (old_decided f x) (kept names) name h) [
    | inl w ↦ (subst (Contains (x ∷ names)) w.0 (Contains-here x names), subst (IsOld f) w.0 w.1)
    | inr r ↦ let v = kept_from names name r in (Contains-there x names name v.0, v.1)
  ]

  keep_here : (x : List ℕ) (d : Dec (IsOld f x)) (rest : Names) → IsOld f x → Contains (keep_if x d rest) x
  unfolding keep_if
  keep_here x (yes old) rest h = Contains-here x rest
  keep_here x (no new) rest h = absurd (new h)

  keep_there : (x : List ℕ) (d : Dec (IsOld f x)) (rest : Names) (name : List ℕ) → Contains rest name → Contains (keep_if x d rest) name
  unfolding keep_if
  keep_there x (yes old) rest name h = Contains-there x rest name h
  keep_there x (no new) rest name h = h

  pub kept_has : (names : Names) (name : List ℕ) → Contains names name → IsOld f name → Contains (kept names) name
  unfolding kept
  kept_has [] name h old = absurd (Contains-nil name h)
  kept_has (x ∷ names) name h old = elim (Contains-cons_cases x names name h) [
    | inl e ↦ subst (Contains (keep_if x (old_decided f x) (kept names))) e (keep_here x (old_decided f x) (kept names) (subst (IsOld f) (sym e) old))
    | inr r ↦ keep_there x (old_decided f x) (kept names) name (kept_has names name r old)
  ]

  -- the new names of what holds
  add_if : {A : Type 0} → Dec A → List ℕ → Names → Names
  add_if (yes a) name rest = name ∷ rest
  add_if (no n) name rest = rest

  module _ (M : ℕ → Type 0) (d : (k : ℕ) → Dec (M k)) where
    pub added : ℕ → Names
    added zero = []
    added (suc n) = add_if (d n) (new_name (most_leading f) n) (added n)

    add_cases : {A : Type 0} (e : Dec A) (x : List ℕ) (rest : Names) (name : List ℕ) → Contains (add_if e x rest) name → ((x ≡ name) × A) ⊎ Contains rest name
    unfolding add_if
    add_cases (yes a) x rest name h = elim (Contains-cons_cases x rest name h) [ inl i ↦ inl (i, a) | inr r ↦ inr r ]
    add_cases (no n) x rest name h = inr h

    pub added_from : (n : ℕ) (name : List ℕ) → Contains (added n) name → (k : ℕ) × (k < n) × (new_name (most_leading f) k ≡ name) × M k
    unfolding added
    added_from zero name h = absurd (Contains-nil name h)
    added_from (suc n) name h = elim (add_cases (d n) (new_name (most_leading f) n) (added n) name h) [
      | inl w ↦ (n, omega arith, w.0, w.1)
      | inr r ↦ let v = added_from n name r in (v.0, omega arith, v.2, v.3)
    ]

    add_here : {A : Type 0} (e : Dec A) (x : List ℕ) (rest : Names) → A → Contains (add_if e x rest) x
    unfolding add_if
    add_here (yes a) x rest h = Contains-here x rest
    add_here (no n) x rest h = absurd (n h)

    add_there : {A : Type 0} (e : Dec A) (x : List ℕ) (rest : Names) (name : List ℕ) → Contains rest name → Contains (add_if e x rest) name
    unfolding add_if
    add_there (yes a) x rest name h = Contains-there x rest name h
    add_there (no n) x rest name h = h

    in_front : (n k : ℕ) → k < suc n → (n ≡ k) ⊎ (k < n)
    in_front n k lt = elim (cases_lt k n) [ inl below ↦ inr below | inr ge ↦ inl (omega arith) ]

    pub added_has : (n k : ℕ) → k < n → M k → Contains (added n) (new_name (most_leading f) k)
    unfolding added
    added_has zero k lt m = absurd (omega arith)
    added_has (suc n) k lt m = elim (in_front n k lt) [
      | inl e ↦ subst (λ j. Contains (add_if (d n) (new_name (most_leading f) n) (added n)) (new_name (most_leading f) j)) e
          (add_here (d n) (new_name (most_leading f) n) (added n) (subst M (sym e) m))
      | inr below ↦ add_there (d n) (new_name (most_leading f) n) (added n) (new_name (most_leading f) k) (added_has n k below m)
    ]

    -- the state with the old names of another and these new ones
    pub state_with : Names → Names
    state_with names = kept names ++ added (taken f)

    pub with_old : (names : Names) (name : List ℕ) → IsOld f name → Contains (state_with names) name ↔ Contains names name
    unfolding state_with
    with_old names name old = (
      λ h. elim (Contains-append_cases (kept names) (added (taken f)) name h) [
        | inl w ↦ (kept_from names name w).0
        | inr w ↦ let v = added_from (taken f) name w in absurd (old v.0 v.1 (sym v.2))
      ],
      λ h. Contains-append_left (kept names) (added (taken f)) name (kept_has names name h old),
    )

    pub with_new : taken f ≤ 2 ^ 64 → (names : Names) (k : ℕ) → k < taken f → Contains (state_with names) (new_name (most_leading f) k) ↔ M k
    unfolding state_with
    with_new few names k lt = (
      λ h. elim (Contains-append_cases (kept names) (added (taken f)) (new_name (most_leading f) k) h) [
        | inl w ↦ absurd ((kept_from names (new_name (most_leading f) k) w).1 k lt refl)
        | inr w ↦ let v = added_from (taken f) (new_name (most_leading f) k) w in
            subst M (one_number (most_leading f) v.0 k (omega arith) (omega arith) v.2) v.3
      ],
      λ m. Contains-append_right (kept names) (added (taken f)) (new_name (most_leading f) k) (added_has (taken f) k lt m),
    )
