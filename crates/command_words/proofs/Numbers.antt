-- Decimal numbers, digit by digit.
use Rattle.std.proofs.Common.{◌≡◌, ℕ, zero, suc, ◌+◌, ◌-◌, ◌*◌, ◌<◌, ◌≤◌, ◌^◌, List, [], ◌∷◌, ◌++◌, length, take, get_or, arith, take-suc, add-one, length-take}
use Rattle.std.proofs.Common.{inl, inr, MatchBool, Bool, true, false}
use Rattle.std.specs.Char.{digit_value, IsAsciiDigit, IsNotAsciiDigit}
use Rattle.std.specs.Int.{IsInRange}
use Rattle.std.specs.Str.Parse.{AllDigits, digits_value}
use Rattle.std.proofs.lemmas.Str.{digit_value_digit}
use Rattle.std.proofs.lemmas.Str.Parse.{digit_from_value}
use Rattle.std.proofs.lemmas.Int.Digits.{digits_value-lt, digits_value_more}
use Rattle.std.proofs.Math.Nat.{pow-le-pow_right}
use Rattle.command_words.specs.Words.{IsNumber}

digits_push : (ds : List ℕ) (c : ℕ) → AllDigits 10 ds → digit_value c < 10 → AllDigits 10 (ds ++ c ∷ [])
digits_push [] c all is = (is, tt)
digits_push (d ∷ ds) c (first, all) is = (first, digits_push ds c all is)

digit_at : (ds : List ℕ) (i : ℕ) → AllDigits 10 ds → i < length ds → digit_value (get_or ds i 0) < 10
digit_at [] i all within = absurd (omega (arith, within))
digit_at (d ∷ ds) zero (first, all) within = first
digit_at (d ∷ ds) (suc i) (first, all) within = digit_at ds i all (omega (arith, within))

-- one digit more
pub digits_more : (ds : List ℕ) (i : ℕ) → i < length ds → AllDigits 10 (take i ds) → IsInRange 48 57 (get_or ds i 0) → AllDigits 10 (take (i + 1) ds)
digits_more ds i within all range =
    let value = digit_value_digit (get_or ds i 0) range in
    let small : digit_value (get_or ds i 0) < 10 = omega (arith, value, range.0, range.1) in
    rw (add-one, take-suc ds i 0 within) (digits_push (take i ds) (get_or ds i 0) all small)

pub value_more : (ds : List ℕ) (i n : ℕ) → i < length ds → n ≡ digits_value 10 (take i ds) → IsInRange 48 57 (get_or ds i 0)
    → 10 * n + (get_or ds i 0 - 48) ≡ digits_value 10 (take (i + 1) ds)
value_more ds i n within is range =
    let more = digits_value_more 10 ds i within in
    let value = digit_value_digit (get_or ds i 0) range in
    omega (arith, more, value, is, range.0)

-- the value of at most eight digits
pub small_value : (ds : List ℕ) (i : ℕ) → AllDigits 10 (take i ds) → length (take i ds) ≤ 8 → digits_value 10 (take i ds) < 100000000
small_value ds i all short =
    let low = digits_value-lt 10 (take i ds) all in
    let high : 10 ^ length (take i ds) ≤ 10 ^ 8 = pow-le-pow_right (omega arith) short in
    omega (arith, low, high)

pub no_digit : (ds : List ℕ) (most low high i n : ℕ) (tested : Bool) → i < length ds
    → MatchBool tested (IsAsciiDigit (get_or ds i 0)) (IsNotAsciiDigit (get_or ds i 0)) → tested ≡ false → IsNumber most low high ds n → ⊥
no_digit ds most low high i n true within cases is number = cc
no_digit ds most low high i n false within cases is number = outside cases (digit_from_value (get_or ds i 0) (digit_at ds i number.numeral.1 within)) where
  outside : IsNotAsciiDigit (get_or ds i 0) → IsInRange 48 57 (get_or ds i 0) → ⊥
  outside (inl less) range = absurd (omega (arith, less, range.0))
  outside (inr more) range = absurd (omega (arith, more, range.1))

pub is_digit : (d : ℕ) (tested : Bool) → MatchBool tested (IsAsciiDigit d) (IsNotAsciiDigit d) → tested ≡ true → IsInRange 48 57 d
is_digit d true cases is = cases
is_digit d false cases is = absurd (cc)

-- the next sum fits: at most eight digits were read
pub next_fits : (ds : List ℕ) (i n : ℕ) → i < length ds → length ds ≤ 9 → AllDigits 10 (take i ds) → n ≡ digits_value 10 (take i ds)
    → IsInRange 48 57 (get_or ds i 0) → (n < 100000000) × (10 * n + (get_or ds i 0 - 48) < 1000000010)
next_fits ds i n within short all is range =
    let size = length-take i ds in
    let few : length (take i ds) ≤ 8 = omega (arith, size, within, short) in
    let small = small_value ds i all few in
    let low : n < 100000000 = omega (arith, small, is) in
    (low, omega (arith, low, range.0, range.1))
