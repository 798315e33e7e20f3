-- What is no until is a release of the negations, and so on. One direction of each duality holds as it stands, the other needs the claims decided.
-- From them each operator on decided claims is decided.
use Rattle.std.proofs.Common.{ℕ, suc, ◌<◌, ◌≤◌, inl, inr, arith}
use native.Mathlib.Decide.{dec_le}
use Rattle.ltl_word.specs.Claims.{Claim, IsUntil, IsReleased, IsSince, IsTriggered}
use Rattle.ltl_word.proofs.Search.{IsDecided, ¬_decided, ×_decided, first_or_none, between_decided, after_decided}

abbrev pub Negated : Claim → Claim
Negated A i = A i → ⊥

-- where B comes at all after A's, it does so below n
abbrev pub HasHorizon : Claim → Claim → Claim → ℕ → Type 0
HasHorizon P A B i = (n : ℕ) × (IsUntil P A B i → (j : ℕ) × (j < n) × (i ≤ j) × P j × B j × ((k : ℕ) → i ≤ k → k < j → A k))

-- an operator and its dual on the negations exclude each other
module _ (P A B : Claim) (i : ℕ) where
  pub no_release-from_until : IsUntil P (Negated A) (Negated B) i → IsReleased P A B i → ⊥
  no_release-from_until (j, le, at, not_b, all) f = elim (f j le at) [
    | inl b ↦ not_b b
    | inr w ↦ all w.0 w.1 w.2 w.3
  ]

  pub no_until-from_release : IsReleased P (Negated A) (Negated B) i → IsUntil P A B i → ⊥
  no_until-from_release f (j, le, at, b, all) = elim (f j le at) [
    | inl not_b ↦ not_b b
    | inr w ↦ w.3 (all w.0 w.1 w.2)
  ]

module _ (A B : Claim) (i : ℕ) where
  pub no_trigger-from_since : IsSince (Negated A) (Negated B) i → IsTriggered A B i → ⊥
  no_trigger-from_since (j, le, not_b, all) f = elim (f j le) [
    | inl b ↦ not_b b
    | inr w ↦ all w.0 w.1 w.2 w.3
  ]

  pub no_since-from_trigger : IsTriggered (Negated A) (Negated B) i → IsSince A B i → ⊥
  no_since-from_trigger f (j, le, b, all) = elim (f j le) [
    | inl not_b ↦ not_b b
    | inr w ↦ w.3 (all w.0 w.1 w.2)
  ]

-- on decided claims one of the two holds
module _ (P A B : Claim) (da : IsDecided A) (db : IsDecided B) (i : ℕ) where
  pub Released-from_no_until : (IsUntil P (Negated A) (Negated B) i → ⊥) → IsReleased P A B i
  Released-from_no_until h j le at = elim (db j) [
    | yes b ↦ inl b
    | no not_b ↦ elim (between_decided (Negated A) (λ k. ¬_decided (da k)) i j) [
      | inl w ↦ elim (da w.0) [ yes a ↦ inr (w.0, w.1, w.2, a) | no not_a ↦ absurd (w.3 not_a) ]
      | inr all ↦ absurd (h (j, le, at, not_b, all))
    ]
  ]

  pub Released-from_not : (IsUntil P A B i → ⊥) → IsReleased P (Negated A) (Negated B) i
  Released-from_not h j le at = elim (db j) [
    | no not_b ↦ inl not_b
    | yes b ↦ elim (between_decided A da i j) [
      | inl w ↦ inr w
      | inr all ↦ absurd (h (j, le, at, b, all))
    ]
  ]

module _ (A B : Claim) (da : IsDecided A) (db : IsDecided B) (i : ℕ) where
  pub Triggered-from_no_since : (IsSince (Negated A) (Negated B) i → ⊥) → IsTriggered A B i
  Triggered-from_no_since h j le = elim (db j) [
    | yes b ↦ inl b
    | no not_b ↦ elim (after_decided (Negated A) (λ k. ¬_decided (da k)) j i) [
      | inl w ↦ elim (da w.0) [ yes a ↦ inr (w.0, w.1, w.2, a) | no not_a ↦ absurd (w.3 not_a) ]
      | inr all ↦ absurd (h (j, le, not_b, all))
    ]
  ]

  pub Triggered-from_not : (IsSince A B i → ⊥) → IsTriggered (Negated A) (Negated B) i
  Triggered-from_not h j le = elim (db j) [
    | no not_b ↦ inl not_b
    | yes b ↦ elim (after_decided A da j i) [
      | inl w ↦ inr w
      | inr all ↦ absurd (h (j, le, b, all))
    ]
  ]

-- each operator is decided; until and release where there is a horizon

pub Until_decided : (P A B : Claim) → IsDecided P → IsDecided A → IsDecided B → (i : ℕ) → HasHorizon P A B i → Dec (IsUntil P A B i)
Until_decided P A B dp da db i (n, low) =
    elim (first_or_none (λ j. (i ≤ j) × (P j × (B j × ((k : ℕ) → i ≤ k → k < j → A k))))
    (λ j. ×_decided (dec_le i j) (×_decided (dp j) (×_decided (db j)
    (elim (between_decided A da i j) [ inl w ↦ no (λ all. w.3 (all w.0 w.1 w.2)) | inr all ↦ yes all ])))) n) [
      | inl w ↦ yes (w.0, w.2.0, w.2.1.0, w.2.1.1.0, w.2.1.1.1)
      | inr none ↦ no (λ w. let v = low w in none v.0 v.1 (v.2, (v.3, (v.4, v.5))))
    ]

pub Released_decided : (P A B : Claim) → IsDecided P → IsDecided A → IsDecided B → (i : ℕ) → HasHorizon P (Negated A) (Negated B) i → Dec (IsReleased P A B i)
Released_decided P A B dp da db i h =
    elim (Until_decided P (Negated A) (Negated B) dp (λ j. ¬_decided (da j)) (λ j. ¬_decided (db j)) i h) [
      | yes u ↦ no (no_release-from_until P A B i u)
      | no n ↦ yes (Released-from_no_until P A B da db i n)
    ]

pub Since_decided : (A B : Claim) → IsDecided A → IsDecided B → IsDecided (IsSince A B)
Since_decided A B da db i =
    elim (first_or_none (λ j. B j × ((k : ℕ) → j < k → k ≤ i → A k))
    (λ j. ×_decided (db j) (elim (after_decided A da j i) [ inl w ↦ no (λ all. w.3 (all w.0 w.1 w.2)) | inr all ↦ yes all ])) (suc i)) [
      | inl w ↦ yes (w.0, omega arith, w.2.0, w.2.1)
      | inr none ↦ no (λ w. none w.0 (omega arith) (w.2, w.3))
    ]

pub Triggered_decided : (A B : Claim) → IsDecided A → IsDecided B → IsDecided (IsTriggered A B)
Triggered_decided A B da db i =
    elim (Since_decided (Negated A) (Negated B) (λ j. ¬_decided (da j)) (λ j. ¬_decided (db j)) i) [
      | yes u ↦ no (no_trigger-from_since A B i u)
      | no n ↦ yes (Triggered-from_no_since A B da db i n)
    ]
