-- Each operator at a position in terms of the position and its neighbour, on claims. Release and trigger need the left claim decided at the position.
use Rattle.std.proofs.Common.{◌≡◌, ℕ, suc, ◌-◌, ◌≤◌, ◌⊎◌, inl, inr, subst, arith, refl}
use Rattle.std.proofs.lemmas.Bool.{cases_lt}
use Rattle.ltl_syntax.specs.Shape.{Future, Past, Step}
use Rattle.ltl_word.specs.Claims.{Claim, Always', IsSomewhere, IsEverywhere, IsUntil, IsReleased, IsSince, IsTriggered}

-- what stands before a position is one
abbrev pub IsClosed : Claim → Type 0
IsClosed P = (i j : ℕ) → i ≤ j → P j → P i

module _ (P A B : Claim) (closed : IsClosed P) (i : ℕ) where
  pub until_in : P i → B i ⊎ (A i × IsSomewhere P Future Step (IsUntil P A B) i) → IsUntil P A B i
  until_in at (inl b) = (i, omega arith, at, b, λ k low high. absurd (omega arith))
  until_in at (inr w) =
      let e : suc i ≡ w.1.0 = w.1.1.0 in
      let u = w.1.2 in (
        u.0,
        omega arith,
        u.2,
        u.3,
        λ k low high. elim (cases_lt i k) [
          | inl later ↦ u.4 k (omega arith) high
          | inr here ↦ let e : i ≡ k = omega arith in subst A e w.0
        ],
      )

  pub until_out : IsUntil P A B i → B i ⊎ (A i × IsSomewhere P Future Step (IsUntil P A B) i)
  until_out (j, le, pj, b, all) = elim (cases_lt i j) [
    | inr here ↦ let e : j ≡ i = omega arith in inl (subst B e b)
    | inl later ↦ inr (all i (omega arith) later, (suc i, (refl, closed (suc i) j later pj), (j, later, pj, b, λ k low high. all k (omega arith) high)))
  ]

  pub release_in : B i × (A i ⊎ IsEverywhere P Future Step (IsReleased P A B) i) → IsReleased P A B i
  release_in w j le pj = elim (cases_lt i j) [
    | inr here ↦ let e : i ≡ j = omega arith in inl (subst B e w.0)
    | inl later ↦ elim w.1 [
      | inl a ↦ inr (i, omega arith, later, a)
      | inr f ↦ elim (f (suc i) (refl, closed (suc i) j later pj) j later pj) [ inl b ↦ inl b | inr v ↦ inr (v.0, omega arith, v.2, v.3) ]
    ]
  ]

  pub release_out : P i → Dec (A i) → IsReleased P A B i → B i × (A i ⊎ IsEverywhere P Future Step (IsReleased P A B) i)
  release_out at da f = (
    elim (f i (omega arith) at) [ inl b ↦ b | inr v ↦ absurd (omega arith) ],
    elim da [
      | yes a ↦ inl a
      | no n ↦ inr (λ m step j le pj. elim (f j (omega (arith, step.0)) pj) [
        | inl b ↦ inl b
        | inr v ↦ elim (cases_lt i v.0) [
          | inl later ↦ inr (v.0, omega (arith, step.0), v.2, v.3)
          | inr here ↦ let e : v.0 ≡ i = omega arith in absurd (n (subst A e v.3))
        ]
      ])
    ],
  )

module _ (A B : Claim) (i : ℕ) where
  pub since_in : B i ⊎ (A i × IsSomewhere Always' Past Step (IsSince A B) i) → IsSince A B i
  since_in (inl b) = (i, omega arith, b, λ k low high. absurd (omega arith))
  since_in (inr w) =
      let e : suc w.1.0 ≡ i = w.1.1 in
      let u = w.1.2 in (
        u.0,
        omega arith,
        u.2,
        λ k low high. elim (cases_lt w.1.0 k) [
          | inl later ↦ let d : i ≡ k = omega arith in subst A d w.0
          | inr before ↦ u.3 k low before
        ],
      )

  pub since_out : IsSince A B i → B i ⊎ (A i × IsSomewhere Always' Past Step (IsSince A B) i)
  since_out (j, le, b, all) = elim (cases_lt j i) [
    | inr here ↦ let e : j ≡ i = omega arith in inl (subst B e b)
    | inl before ↦ inr (all i before (omega arith), (i - 1, omega arith, (j, omega arith, b, λ k low high. all k low (omega arith))))
  ]

  pub trigger_in : B i × (A i ⊎ IsEverywhere Always' Past Step (IsTriggered A B) i) → IsTriggered A B i
  trigger_in w j le = elim (cases_lt j i) [
    | inr here ↦ let e : i ≡ j = omega arith in inl (subst B e w.0)
    | inl before ↦ elim w.1 [
      | inl a ↦ inr (i, before, omega arith, a)
      | inr f ↦ elim (f (i - 1) (omega arith) j (omega arith)) [ inl b ↦ inl b | inr v ↦ inr (v.0, v.1, omega arith, v.3) ]
    ]
  ]

  pub trigger_out : Dec (A i) → IsTriggered A B i → B i × (A i ⊎ IsEverywhere Always' Past Step (IsTriggered A B) i)
  trigger_out da f = (
    elim (f i (omega arith)) [ inl b ↦ b | inr v ↦ absurd (omega arith) ],
    elim da [
      | yes a ↦ inl a
      | no n ↦ inr (λ m e j le. elim (f j (omega arith)) [
        | inl b ↦ inl b
        | inr v ↦ elim (cases_lt m v.0) [
          | inr within ↦ inr (v.0, v.1, within, v.3)
          | inl here ↦ let d : v.0 ≡ i = omega arith in absurd (n (subst A d v.3))
        ]
      ])
    ],
  )
