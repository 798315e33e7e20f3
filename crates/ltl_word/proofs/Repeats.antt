-- Claims that repeat with period p from n on: each operator of claims that repeat gives one. Those on the past do so p later.
use Rattle.std.proofs.Common.{◌≡◌, ℕ, zero, suc, max, ◌⊎◌, ◌+◌, ◌-◌, ◌<◌, ◌≤◌, inl, inr, subst, arith}
use Rattle.std.proofs.lemmas.Bool.{cases_lt}
use Rattle.ltl_word.proofs.Duality.{HasHorizon}
use Rattle.ltl_word.specs.Claims.{Always', Never, Claim, IsUntil, IsReleased, IsSince, IsTriggered}

-- from n on, a claim and the same claim p later are one
pub record Repeats (A : Claim) (p n : ℕ) : Type 0 where
  pub later : (i : ℕ) → n ≤ i → A i → A (i + p)
  pub earlier : (i : ℕ) → n ≤ i → A (i + p) → A i

module _ (A : Claim) (p n : ℕ) (r : Repeats A p n) where
  pub moved_down : (k : ℕ) → n + p ≤ k → A k → A (k - p)
  moved_down k h a =
      let e : k ≡ (k - p) + p = omega arith in
      let le : n ≤ k - p = omega arith in
      r.earlier (k - p) le (subst A e a)

  pub moved_up : (k : ℕ) → n + p ≤ k → A (k - p) → A k
  moved_up k h a =
      let e : (k - p) + p ≡ k = omega arith in
      let le : n ≤ k - p = omega arith in
      subst A e (r.later (k - p) le a)

pub Always-repeats : (p n : ℕ) → Repeats Always' p n
Always-repeats p n = record { later = λ i h a. a; earlier = λ i h a. a }

pub Never-repeats : (p n : ℕ) → Repeats Never p n
Never-repeats p n = record { later = λ i h a. a; earlier = λ i h a. a }

pub And-repeats : {A B : Claim} {p n : ℕ} → Repeats A p n → Repeats B p n → Repeats (λ i. A i × B i) p n
And-repeats r s = record {
  later = λ i h w. (r.later i h w.0, s.later i h w.1);
  earlier = λ i h w. (r.earlier i h w.0, s.earlier i h w.1);
}

pub Or-repeats : {A B : Claim} {p n : ℕ} → Repeats A p n → Repeats B p n → Repeats (λ i. A i ⊎ B i) p n
Or-repeats r s = record {
  later = λ i h w. elim w [ inl a ↦ inl (r.later i h a) | inr b ↦ inr (s.later i h b) ];
  earlier = λ i h w. elim w [ inl a ↦ inl (r.earlier i h a) | inr b ↦ inr (s.earlier i h b) ];
}

pub Implies-repeats : {A B : Claim} {p n : ℕ} → Repeats A p n → Repeats B p n → Repeats (λ i. A i → B i) p n
Implies-repeats r s = record {
  later = λ i h f a. s.later i h (f (r.earlier i h a));
  earlier = λ i h f a. s.earlier i h (f (r.later i h a));
}

module _ (P A B : Claim) (p n : ℕ) (positions : Repeats P p n) (ra : Repeats A p n) (rb : Repeats B p n) where
  Until-later : (i : ℕ) → n ≤ i → IsUntil P A B i → IsUntil P A B (i + p)
  Until-later i h (j, le, at, b, between) = (
    j + p,
    omega arith,
    positions.later j (omega arith) at,
    rb.later j (omega arith) b,
    λ k low high. moved_up A p n ra k (omega arith) (between (k - p) (omega arith) (omega arith)),
  )

  Until-earlier : (i : ℕ) → n ≤ i → IsUntil P A B (i + p) → IsUntil P A B i
  Until-earlier i h (j, le, at, b, between) = (
    j - p,
    omega arith,
    moved_down P p n positions j (omega arith) at,
    moved_down B p n rb j (omega arith) b,
    λ k low high. ra.earlier k (omega arith) (between (k + p) (omega arith) (omega arith)),
  )

  pub Until-repeats : Repeats (IsUntil P A B) p n
  Until-repeats = record { later = Until-later; earlier = Until-earlier }

  Released-later : (i : ℕ) → n ≤ i → IsReleased P A B i → IsReleased P A B (i + p)
  Released-later i h f j le at =
      elim (f (j - p) (omega arith) (moved_down P p n positions j (omega arith) at)) [
        | inl b ↦ inl (moved_up B p n rb j (omega arith) b)
        | inr w ↦ inr (w.0 + p, omega arith, omega arith, ra.later w.0 (omega arith) w.3)
      ]

  Released-earlier : (i : ℕ) → n ≤ i → IsReleased P A B (i + p) → IsReleased P A B i
  Released-earlier i h f j le at =
      elim (f (j + p) (omega arith) (positions.later j (omega arith) at)) [
        | inl b ↦ inl (rb.earlier j (omega arith) b)
        | inr w ↦ inr (w.0 - p, omega arith, omega arith, moved_down A p n ra w.0 (omega arith) w.3)
      ]

  pub Released-repeats : Repeats (IsReleased P A B) p n
  Released-repeats = record { later = Released-later; earlier = Released-earlier }

module _ (A B : Claim) (p n : ℕ) (some : 0 < p) (ra : Repeats A p n) (rb : Repeats B p n) where
  Since-later : (i : ℕ) → n + p ≤ i → IsSince A B i → IsSince A B (i + p)
  Since-later i h (j, le, b, after) =
      elim (cases_lt j n) [
        | inl lt ↦ (
          j,
          omega arith,
          b,
          λ k low high.
              elim (cases_lt i k) [
                | inl past ↦ moved_up A p n ra k (omega arith) (after (k - p) (omega arith) (omega arith))
                | inr within ↦ after k low within
              ],
        )
        | inr ge ↦ (
          j + p,
          omega arith,
          rb.later j ge b,
          λ k low high.
              moved_up A p n ra k (omega arith) (after (k - p) (omega arith) (omega arith)),
        )
      ]

  Since-earlier : (i : ℕ) → n + p ≤ i → IsSince A B (i + p) → IsSince A B i
  Since-earlier i h (j, le, b, after) =
      elim (cases_lt j (n + p)) [
        | inl lt ↦ (j, omega arith, b, λ k low high. after k low (omega arith))
        | inr ge ↦ (
          j - p,
          omega arith,
          moved_down B p n rb j ge b,
          λ k low high.
              ra.earlier k (omega arith) (after (k + p) (omega arith) (omega arith)),
        )
      ]

  pub Since-repeats : Repeats (IsSince A B) p (n + p)
  Since-repeats = record { later = Since-later; earlier = Since-earlier }

  Triggered-later : (i : ℕ) → n + p ≤ i → IsTriggered A B i → IsTriggered A B (i + p)
  Triggered-later i h f j le =
      elim (cases_lt j (n + p)) [
        | inl lt ↦ elim (f j (omega arith)) [
          | inl b ↦ inl b
          | inr w ↦ inr (w.0, w.1, omega arith, w.3)
        ]
        | inr ge ↦ elim (f (j - p) (omega arith)) [
          | inl b ↦ inl (moved_up B p n rb j ge b)
          | inr w ↦ inr (w.0 + p, omega arith, omega arith, ra.later w.0 (omega arith) w.3)
        ]
      ]

  Triggered-earlier : (i : ℕ) → n + p ≤ i → IsTriggered A B (i + p) → IsTriggered A B i
  Triggered-earlier i h f j le =
      elim (cases_lt j n) [
        | inl lt ↦ elim (f j (omega arith)) [
          | inl b ↦ inl b
          | inr w ↦ elim (cases_lt i w.0) [
            | inl past ↦ inr (w.0 - p, omega arith, omega arith, moved_down A p n ra w.0 (omega arith) w.3)
            | inr within ↦ inr (w.0, w.1, within, w.3)
          ]
        ]
        | inr ge ↦ elim (f (j + p) (omega arith)) [
          | inl b ↦ inl (rb.earlier j ge b)
          | inr w ↦ inr (w.0 - p, omega arith, omega arith, moved_down A p n ra w.0 (omega arith) w.3)
        ]
      ]

  pub Triggered-repeats : Repeats (IsTriggered A B) p (n + p)
  Triggered-repeats = record { later = Triggered-later; earlier = Triggered-earlier }

-- what repeats has a horizon
module _ (P A B : Claim) (p n : ℕ) (some : 0 < p) (rp : Repeats P p n) (rb : Repeats B p n) (i : ℕ) where
  -- a witness moves down by whole periods, and keeps what stands before it
  lowered : (fuel j : ℕ) → j ≤ fuel → i ≤ j → P j → B j → ((k : ℕ) → i ≤ k → k < j → A k)
      → (v : ℕ) × (v < max i n + p) × (i ≤ v) × P v × B v × ((k : ℕ) → i ≤ k → k < v → A k)
  lowered zero j le low at b all = (j, omega arith, low, at, b, all)
  lowered (suc fuel) j le low at b all = elim (cases_lt j (max i n + p)) [
    | inl lt ↦ (j, lt, low, at, b, all)
    | inr ge ↦ lowered fuel (j - p) (omega arith) (omega arith) (moved_down P p n rp j (omega arith) at) (moved_down B p n rb j (omega arith) b)
        (λ k l h. all k l (omega arith))
  ]

  pub horizon_of_period : HasHorizon P A B i
  horizon_of_period = (max i n + p, λ w. lowered w.0 w.0 (omega arith) w.1 w.2 w.3 w.4)
