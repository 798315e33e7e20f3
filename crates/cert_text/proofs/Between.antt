-- Bytes in order, with no space far from the next, are numbers up to a space.
use Rattle.std.proofs.Common.{◌≡◌, ℕ, zero, suc, ◌+◌, ◌-◌, ◌<◌, ◌≤◌, ◌⊎◌, inl, inr, true, false, List, [], ◌∷◌, length, get_or, All, sym, ap, ◌∙◌, subst, arith}
use Rattle.std.proofs.lemmas.Bool.{cases_lt, cases_eq}
use Rattle.cert_text.specs.Skipped.{between, IsDigit, IsSign, AreShort, may_follow, AreInOrder, HasSpace, AreSpaced}
use Rattle.cert_text.proofs.Skips.{between_one, between_none, digits_none, digits_more, number_short, short_none, short_more}

pub order_more : (bytes : List ℕ) (from mid to : ℕ) → AreInOrder bytes from mid → AreInOrder bytes mid to → AreInOrder bytes from to
order_more bytes from mid to one two k low high = elim (cases_lt k mid) [ inl early ↦ one k low early | inr late ↦ two k late high ]

pub spaced_more : (bytes : List ℕ) (from end : ℕ) → AreSpaced bytes from end → HasSpace bytes end (end + 8) → HasSpace bytes (end + 8) (end + 8 + 8)
    → AreSpaced bytes from (end + 16)
spaced_more bytes from end all one two k low high =
    elim (cases_lt end (k + 8)) [
      | inr early ↦ let old = all k low early in (old.0, old.1, old.2, omega (arith, old.3), old.4)
      | inl late ↦ elim (cases_lt end k) [
        | inr near ↦ (one.0, omega (arith, one.1, near), omega (arith, one.2, late), omega (arith, one.2), one.3)
        | inl far ↦ (two.0, omega (arith, two.1, high), omega (arith, two.2, far), omega (arith, two.2), two.3)
      ]
    ]

-- what may stand behind a byte
follow_cases : (a b : ℕ) → may_follow a b ≡ true → ((49 ≤ b) × (b < 58)) ⊎ (((48 ≤ a) × ((b ≡ 48) ⊎ (b ≡ 32))) ⊎ ((b ≡ 45) × (a ≡ 32)))
follow_cases a b is = grind (arith, is)

-- the first space from a place on
first_space : (bytes : List ℕ) (from d : ℕ) → get_or bytes (from + d) 0 ≡ 32
    → (m : ℕ) × (from ≤ m) × (m ≤ from + d) × (get_or bytes m 0 ≡ 32) × ((k : ℕ) → from ≤ k → k < m → get_or bytes k 0 ≡ 32 → ⊥)
first_space bytes from zero is =
    (from, omega arith, omega arith, ap (λ i. get_or bytes i 0) (omega arith) ∙ is, λ k low high e. absurd (omega (arith, low, high)))
first_space bytes from (suc d) is =
    elim (cases_eq (get_or bytes from 0) 32) [
      | inl here ↦ (from, omega arith, omega arith, here, λ k low high e. absurd (omega (arith, low, high)))
      | inr other ↦
          let rest = first_space bytes (from + 1) d (ap (λ i. get_or bytes i 0) (omega arith) ∙ is) in (
            rest.0,
            omega (arith, rest.1),
            omega (arith, rest.2),
            rest.3,
            λ k low high e. elim (cases_eq k from)
                [ inl same ↦ other (ap (λ i. get_or bytes i 0) (sym same) ∙ e) | inr more ↦ rest.4 k (omega (arith, low, more)) high e ],
          )
    ]

-- behind the first digit, up to the space, stand digits
digit_at : (bytes : List ℕ) (first_at end d : ℕ) → IsDigit (get_or bytes first_at 0) → AreInOrder bytes (first_at + 1) end
    → ((k : ℕ) → first_at ≤ k → k < end → get_or bytes k 0 ≡ 32 → ⊥) → first_at + d < end → IsDigit (get_or bytes (first_at + d) 0)
digit_at bytes first_at end zero is order none low = subst (λ i. IsDigit (get_or bytes i 0)) (let e : first_at ≡ first_at + 0 = omega arith in e) is
digit_at bytes first_at end (suc d) is order none low =
    let before = digit_at bytes first_at end d is order none (omega (arith, low)) in
    let back : first_at + suc d - 1 ≡ first_at + d = omega arith in
    let before_there : IsDigit (get_or bytes (first_at + suc d - 1) 0) = subst (λ i. IsDigit (get_or bytes i 0)) (sym back) before in
    elim (follow_cases (get_or bytes (first_at + suc d - 1) 0) (get_or bytes (first_at + suc d) 0) (order (first_at + suc d) (omega arith) low)) [
      | inl digit ↦ (omega (arith, digit.0), digit.1)
      | inr (inl (ge, inl nought)) ↦ (omega (arith, nought), omega (arith, nought))
      | inr (inl (ge, inr space)) ↦ absurd (none (first_at + suc d) (omega arith) low space)
      | inr (inr (minus, space)) ↦ absurd (omega (arith, before_there.0, space))
    ]

digits_to : (bytes : List ℕ) (first_at end d : ℕ) → ((e : ℕ) → first_at + e < end → IsDigit (get_or bytes (first_at + e) 0)) → end ≤ length bytes
    → first_at + d ≤ end → All IsDigit (between bytes first_at (first_at + d))
digits_to bytes first_at end zero each within low =
    subst (λ i. All IsDigit (between bytes first_at i)) (let e : first_at ≡ first_at + 0 = omega arith in e) (digits_none bytes first_at)
digits_to bytes first_at end (suc d) each within low =
    subst (λ i. All IsDigit (between bytes first_at i)) (let e : first_at + d + 1 ≡ first_at + suc d = omega arith in e)
    (digits_more bytes first_at (first_at + d) (omega arith) (omega (arith, low, within)) (digits_to bytes first_at end d each within (omega (arith, low)))
    (each d (omega (arith, low))))

-- one number, from its first digit up to the first space
number_from : (bytes : List ℕ) (at first_at end : ℕ) → at ≤ first_at → first_at < end → end < length bytes → end < at + 16 → IsSign (between bytes at first_at)
    → (49 ≤ get_or bytes first_at 0) × (get_or bytes first_at 0 < 58) → AreInOrder bytes (first_at + 1) end
    → ((k : ℕ) → first_at ≤ k → k < end → get_or bytes k 0 ≡ 32 → ⊥) → get_or bytes end 0 ≡ 32 → AreShort 19 (between bytes at (end + 1))
number_from bytes at first_at end low mid within near sign first order none space =
    let apart : first_at + (end - first_at) ≡ end = omega (arith, mid) in
    let each : (e : ℕ) → first_at + e < end → IsDigit (get_or bytes (first_at + e) 0) =
    λ e less. digit_at bytes first_at end e (omega (arith, first.0), first.1) order none less in
    let digits : All IsDigit (between bytes first_at end) = subst (λ i. All IsDigit (between bytes first_at i)) apart
    (digits_to bytes first_at end (end - first_at) each (omega (arith, within)) (omega (arith, mid))) in
    number_short bytes at first_at end 19 low mid within (omega arith) (omega (arith, near, low)) sign digits
    (λ nought. absurd (omega (arith, first.0, nought))) space

-- the number behind a space, up to the first space
next_number : (bytes : List ℕ) (at end : ℕ) → 1 ≤ at → end < length bytes
    → at ≤ end → end < at + 16 → get_or bytes (at - 1) 0 ≡ 32 → AreInOrder bytes at (end + 1)
    → ((k : ℕ) → at ≤ k → k < end → get_or bytes k 0 ≡ 32 → ⊥) → get_or bytes end 0 ≡ 32 → AreShort 19 (between bytes at (end + 1))
next_number bytes at end some within low near before order none space =
    elim (follow_cases (get_or bytes (at - 1) 0) (get_or bytes at 0) (order at (omega arith) (omega (arith, low)))) [
      | inl digit ↦
          number_from bytes at at end (omega arith) (apart at low digit.0 space) within near (false, between_none bytes at) digit
          (λ k from to. order k (omega (arith, from)) (omega (arith, to))) none space
      | inr (inl (ge, which)) ↦ absurd (omega (arith, ge, before))
      | inr (inr (minus, is)) ↦
          let more : at < end = order_of at low minus space in
          elim (follow_cases (get_or bytes (at + 1 - 1) 0) (get_or bytes (at + 1) 0) (order (at + 1) (omega arith) (omega (arith, more)))) [
            | inl digit ↦
                number_from bytes at (at + 1) end (omega arith) (apart (at + 1) (omega (arith, more)) digit.0 space) within near
                (true, between_one bytes at (omega (arith, low, within)) ∙ ap (λ b. b ∷ []) minus) digit
                (λ k from to. order k (omega (arith, from)) (omega (arith, to))) (λ k from to. none k (omega (arith, from)) to) space
            | inr (inl (ge, which)) ↦ absurd (omega (arith, ge, same minus))
            | inr (inr (again, is_space)) ↦ absurd (omega (arith, is_space, same minus))
          ]
    ]
  where
    apart : (i : ℕ) → i ≤ end → 49 ≤ get_or bytes i 0 → get_or bytes end 0 ≡ 32 → i < end
    apart i le ge e = elim (cases_eq i end) [ inl is ↦ absurd (omega (arith, ge, ap (λ j. get_or bytes j 0) is, e)) | inr other ↦ omega (arith, le, other) ]

    order_of : (i : ℕ) → i ≤ end → get_or bytes i 0 ≡ 45 → get_or bytes end 0 ≡ 32 → i < end
    order_of i le minus e =
        elim (cases_eq i end) [ inl is ↦ absurd (omega (arith, minus, ap (λ j. get_or bytes j 0) is, e)) | inr other ↦ omega (arith, le, other) ]

    same : get_or bytes at 0 ≡ 45 → get_or bytes (at + 1 - 1) 0 ≡ 45
    same minus = ap (λ i. get_or bytes i 0) (let e : at + 1 - 1 ≡ at = omega arith in e) ∙ minus

-- from behind one space to behind another stand numbers
pub numbers_in : (n : ℕ) (bytes : List ℕ) (at end to : ℕ) → end ≤ at + n → 1 ≤ at → at ≤ end → end ≤ to → to ≤ length bytes → get_or bytes (at - 1) 0 ≡ 32
    → (end ≡ at) ⊎ (get_or bytes (end - 1) 0 ≡ 32) → AreInOrder bytes at to → AreSpaced bytes at to → AreShort 19 (between bytes at end)
numbers_in zero bytes at end to few some low high within before last order spaced =
    subst (λ i. AreShort 19 (between bytes at i)) (let e : at ≡ end = omega (arith, few, low) in e) (short_none bytes at 19)
numbers_in (suc n) bytes at end to few some low high within before (inl none) order spaced =
    subst (λ i. AreShort 19 (between bytes at i)) (sym none) (short_none bytes at 19)
numbers_in (suc n) bytes at end to few some low high within before (inr last) order spaced =
    elim (cases_lt at end) [
      | inr none ↦ subst (λ i. AreShort 19 (between bytes at i)) (let e : at ≡ end = omega (arith, none, low) in e) (short_none bytes at 19)
      | inl more ↦
          let some_space = near more in
          let first = first_space bytes at (some_space.0 - at)
          (ap (λ i. get_or bytes i 0) (let e : at + (some_space.0 - at) ≡ some_space.0 = omega (arith, some_space.1) in e) ∙ some_space.4) in
          let inside : first.0 < end = omega (arith, first.2, some_space.1, some_space.3) in
          let close : first.0 < at + 16 = omega (arith, first.2, some_space.1, some_space.2) in
          let number = next_number bytes at first.0 some (omega (arith, inside, high, within)) first.1 close before
          (λ k from to_k. order k from (omega (arith, to_k, inside, high))) first.4 first.3 in
          let rest = numbers_in n bytes (first.0 + 1) end to (omega (arith, few, first.1)) (omega arith) (omega (arith, inside)) high within
          (ap (λ i. get_or bytes i 0) (let e : first.0 + 1 - 1 ≡ first.0 = omega arith in e) ∙ first.3) (inr last)
          (λ k from to_k. order k (omega (arith, from, first.1)) to_k) (λ k from to_k. spaced k (omega (arith, from, first.1)) to_k) in
          short_more bytes at (first.0 + 1) end 19 (omega (arith, first.1)) (omega (arith, inside)) number rest
    ]
  where
    near : at < end → (m : ℕ) × (at ≤ m) × (m < at + 16) × (m < end) × (get_or bytes m 0 ≡ 32)
    near more = elim (cases_lt end (at + 16)) [
      | inl short ↦ (end - 1, omega (arith, more), omega (arith, short), omega (arith, more), last)
      | inr long ↦ let m = spaced at (omega arith) (omega (arith, long, high)) in (m.0, m.1, m.2, omega (arith, m.2, long), m.4)
    ]
