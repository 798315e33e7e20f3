-- Decisions, and the search for a position below a bound. There is no excluded middle, so that a claim is decided takes its place.
use Rattle.std.proofs.Common.{◌≡◌, ℕ, zero, suc, ◌<◌, ◌≤◌, ◌⊎◌, inl, inr, subst, arith, refl, Bool, true, false, IsTrue, List, length, get_or, Contains}
use Rattle.std.proofs.lemmas.Bool.{cases_lt}
use Rattle.std.proofs.lemmas.Slice.Eq.{bytes_eq-Decides}
use Rattle.std.specs.Bool.{Decides}
use Rattle.std.specs.Str.{bytes_eq}
use native.Mathlib.Decide.{dec_le}
use Rattle.ltl_word.specs.Claims.{Claim}

-- each position has it, or is shown not to
abbrev pub IsDecided : Claim → Type 0
IsDecided A = (i : ℕ) → Dec (A i)

pub ¬_decided : {A : Type 0} → Dec A → Dec (A → ⊥)
¬_decided (yes a) = no (λ h. h a)
¬_decided (no h) = yes h

pub ×_decided : {A B : Type 0} → Dec A → Dec B → Dec (A × B)
×_decided (yes a) (yes b) = yes (a, b)
×_decided (yes a) (no h) = no (λ w. h w.1)
×_decided (no h) d = no (λ w. h w.0)

pub ⊎_decided : {A B : Type 0} → Dec A → Dec B → Dec (A ⊎ B)
⊎_decided (yes a) d = yes (inl a)
⊎_decided (no h) (yes b) = yes (inr b)
⊎_decided (no h) (no k) = no (λ w. elim w [ inl a ↦ h a | inr b ↦ k b ])

pub →_decided : {A B : Type 0} → Dec A → Dec B → Dec (A → B)
→_decided d (yes b) = yes (λ a. b)
→_decided (yes a) (no h) = no (λ f. h (f a))
→_decided (no h) (no k) = yes (λ a. absurd (h a))

pub mapped : {A B : Type 0} → (A → B) → (B → A) → Dec A → Dec B
mapped f g (yes a) = yes (f a)
mapped f g (no h) = no (λ b. h (g b))

pub IsTrue_decided : (b : Bool) → Dec (IsTrue b)
IsTrue_decided true = yes refl
IsTrue_decided false = no (λ e. cc)

-- some position below n has it, or none has
pub first_or_none : (A : Claim) → IsDecided A → (n : ℕ) → ((j : ℕ) × (j < n) × A j) ⊎ ((j : ℕ) → j < n → A j → ⊥)
first_or_none A d zero = inr (λ j lt a. absurd (omega arith))
first_or_none A d (suc n) = elim (first_or_none A d n) [
  | inl w ↦ inl (w.0, omega arith, w.2)
  | inr none ↦ elim (d n) [
    | yes a ↦ inl (n, omega arith, a)
    | no h ↦ inr (λ j lt a. elim (cases_lt j n) [
      | inl below ↦ none j below a
      | inr ge ↦ let e : j ≡ n = omega arith in h (subst A e a)
    ])
  ]
]

-- each position from i up to before j has it, or one has not
pub between_decided : (A : Claim) → IsDecided A → (i j : ℕ) → ((k : ℕ) × (i ≤ k) × (k < j) × (A k → ⊥)) ⊎ ((k : ℕ) → i ≤ k → k < j → A k)
between_decided A d i j = elim (first_or_none (λ k. (i ≤ k) × (A k → ⊥)) (λ k. ×_decided (dec_le i k) (¬_decided (d k))) j) [
  | inl w ↦ inl (w.0, w.2.0, w.1, w.2.1)
  | inr none ↦ inr (λ k low high. elim (d k) [ yes a ↦ a | no h ↦ absurd (none k high (low, h)) ])
]

-- each position after j up to i has it, or one has not
pub after_decided : (A : Claim) → IsDecided A → (j i : ℕ) → ((k : ℕ) × (j < k) × (k ≤ i) × (A k → ⊥)) ⊎ ((k : ℕ) → j < k → k ≤ i → A k)
after_decided A d j i = elim (between_decided A d (suc j) (suc i)) [
  | inl w ↦ inl (w.0, w.1, omega arith, w.3)
  | inr all ↦ inr (λ k low high. all k low (omega arith))
]

text_decided : (xs ys : List ℕ) → Dec (xs ≡ ys)
text_decided xs ys = turn (bytes_eq xs ys) (bytes_eq-Decides xs ys) where
  turn : (b : Bool) → Decides b (xs ≡ ys) → Dec (xs ≡ ys)
  turn true d = yes (d.0 refl)
  turn false d = no (λ e. let f : false ≡ true = d.1 e in cc)

-- whether a state has a name
pub Contains_decided : (names : List (List ℕ)) (name : List ℕ) → Dec (Contains names name)
Contains_decided names name = elim (first_or_none (λ k. get_or names k name ≡ name) (λ k. text_decided (get_or names k name) name) (length names)) [
  | inl w ↦ yes (w.0, w.1, w.2)
  | inr none ↦ no (λ w. none w.0 w.1 w.2)
]
