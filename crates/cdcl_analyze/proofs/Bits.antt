-- What waits as words come and go, and as a bit is set or goes.
use Rattle.std.proofs.Common.{◌≡◌, ◌≢◌, ℕ, ◌<◌, ◌≤◌, ◌+◌, ◌-◌, ◌*◌, ◌/◌, ◌%◌, ◌^◌, ◌⊎◌, inl, inr, List, ◌∷◌, ◌++◌, take, set, length, get_or, sym, ap, ◌∙◌, []}
use Rattle.std.proofs.Common.{subst, arith}
use Rattle.std.specs.Int.{bit_at}
use Rattle.std.proofs.lemmas.Bool.{cases_eq, cases_lt}
use Rattle.std.proofs.lemmas.Nat.Bits.{bit_at-zero, bit_at_above, bit_at_cat_low}
use Rattle.std.proofs.lemmas.List.{get_or_past, get_or-take, get_or_append_left, get_or-set_other, get_or-set_same}
use Rattle.cdcl_analyze.specs.Waiting.{IsWaiting}

-- a place has no bit in a word that is 0
no_bit : (word i : ℕ) → word ≡ 0 → ¬ (bit_at word i ≡ 1)
no_bit word i zero is = absurd (omega (arith, sym (ap (λ w. bit_at w i) zero) ∙ is, bit_at-zero i))

-- a place that waits has a word
pub has_word : (words : List ℕ) (p : ℕ) → IsWaiting words p → p / 64 < length words
has_word words p is = elim (cases_lt (p / 64) (length words)) [
  | inl low ↦ low
  | inr high ↦ absurd (no_bit _ (p % 64) (get_or_past words (p / 64) 0 (omega (arith, high))) is)
]

pub grown : (words : List ℕ) (p : ℕ) → IsWaiting words p → IsWaiting (words ++ 0 ∷ []) p
grown words p is = subst (λ w. bit_at w (p % 64) ≡ 1) (sym (get_or_append_left words (0 ∷ []) 0 (p / 64) (has_word words p is))) is

-- the last word goes where it has no bit
pub dropped : (words : List ℕ) (last : ℕ) → length words ≡ last + 1 → get_or words last 0 ≡ 0 → (p : ℕ) → IsWaiting words p → IsWaiting (take last words) p
dropped words last long zero p is = elim (cases_eq (p / 64) last) [
  | inl same ↦ absurd (no_bit _ (p % 64) (ap (λ k. get_or words k 0) same ∙ zero) is)
  | inr other ↦ subst (λ w. bit_at w (p % 64) ≡ 1) (sym (get_or-take last words (p / 64) 0 (omega (arith, has_word words p is, long, other)))) is
]

-- a place begins to wait
pub joined : (words : List ℕ) (place word : ℕ) → place / 64 < length words → bit_at word (place % 64) ≡ 1
    → ((i : ℕ) → i ≢ place % 64 → bit_at word i ≡ bit_at (get_or words (place / 64) 0) i)
    → (p : ℕ) → (p ≡ place) ⊎ IsWaiting words p → IsWaiting (set words (place / 64) word) p
joined words place word low here others p (inl is) =
    rw is (subst (λ w. bit_at w (place % 64) ≡ 1) (sym (get_or-set_same words (place / 64) word 0 low)) here)
joined words place word low here others p (inr was) = elim (cases_eq (p / 64) (place / 64)) [
  | inr other ↦ subst (λ w. bit_at w (p % 64) ≡ 1) (sym (get_or-set_other words (place / 64) (p / 64) word 0 other)) was
  | inl same ↦
      subst (λ w. bit_at w (p % 64) ≡ 1) (sym (ap (λ k. get_or (set words (place / 64) word) k 0) same ∙ get_or-set_same words (place / 64) word 0 low))
      (elim (cases_eq (p % 64) (place % 64)) [
        | inl bit ↦ rw bit here
        | inr apart ↦ others (p % 64) apart ∙ ap (λ k. bit_at (get_or words k 0) (p % 64)) (sym same) ∙ was
      ])
]

module _ (words : List ℕ) (last bit word : ℕ) (long : length words ≡ last + 1) (small : bit < 64) (is_word : word ≡ get_or words last 0) (low : 2 ^ bit ≤ word)
    (high : word < 2 ^ (bit + 1)) where
  -- the highest bit of the last word goes
  pub left : (p : ℕ) → IsWaiting words p → (p ≡ last * 64 + bit) ⊎ ((p < last * 64 + bit) × IsWaiting (set words last (word - 2 ^ bit)) p)
  left p is = elim (cases_eq (p / 64) last) [
    | inr other ↦ inr (
      omega (arith, has_word words p is, long, other),
      subst (λ w. bit_at w (p % 64) ≡ 1) (sym (get_or-set_other words last (p / 64) (word - 2 ^ bit) 0 other)) is,
    )
    | inl same ↦
        let here : bit_at word (p % 64) ≡ 1 = ap (λ w. bit_at w (p % 64)) (is_word ∙ ap (λ k. get_or words k 0) (sym same)) ∙ is in
        elim (cases_eq (p % 64) bit) [
          | inl top ↦ inl (omega (arith, same, top))
          | inr apart ↦ elim (cases_lt (p % 64) bit) [
            | inl below ↦ inr (
              omega (arith, same, below),
              ap (λ k. bit_at (get_or (set words last (word - 2 ^ bit)) k 0) (p % 64)) same
                  ∙ ap (λ w. bit_at w (p % 64)) (get_or-set_same words last (word - 2 ^ bit) 0 (omega (arith, long)))
                  ∙ sym (bit_at_cat_low 1 bit (word - 2 ^ bit) (p % 64) below)
                  ∙ ap (λ w. bit_at w (p % 64)) (omega (arith, low))
                  ∙ here,
            )
            | inr above ↦ absurd (omega (arith, here, bit_at_above word (bit + 1) (p % 64) high (omega (arith, above, apart))))
          ]
        ]
  ]
