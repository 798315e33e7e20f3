-- Where a byte, and the 0 behind some literals, stand in a text.
use Rattle.std.proofs.Common.{◌≡◌, ℕ, ◌+◌, ◌-◌, ◌/◌, ◌%◌, ◌<◌, ◌≤◌, inl, inr, Bool, true, false, List, [], ◌∷◌, ◌++◌, length, take, drop, get_or, All, Some}
use Rattle.std.proofs.Common.{None, sym, ap, subst, ◌∙◌, arith, append_assoc, length-append}
use Rattle.std.specs.Prelude.{codes, decimal}
use Rattle.std.specs.List.{flat_map}
use Rattle.std.proofs.Math.Seq.{get_or-append_seam}
use Rattle.std.proofs.lemmas.Bool.{cases_order, eq-eqb, eqb-true}
use Rattle.std.proofs.lemmas.Fmt.{decimal_by_steps, decimal_nonempty}
use Rattle.std.proofs.lemmas.List.{get_or_append_left, get_or-append-add, get_or-take, get_or-drop, length-drop, length-take-le}
use Rattle.std.proofs.lemmas.List.Elements.{All-nil, All-push, All-append}
use Rattle.memchr.specs.Find.{IsFirstByte, Nowhere, Passes, is_byte}
use Rattle.cnf_base.specs.declared.literal.Literal.{Literal}
use Rattle.cert_text.specs.Text.{greatest_u64, IsLiteral, sign_text, literal_text}
use Rattle.cert_text.proofs.Sound.{apart}
use Rattle.cert_text.proofs.Slices.{digits_high}

-- the byte does not stand from here up to there
pub record HasSought (bytes : List ℕ) (at byte end : ℕ) : Type 0 where
  pub low : at ≤ end
  pub high : end ≤ length bytes
  pub none : (k : ℕ) → at ≤ k → k < end → get_or bytes k 0 ≡ byte → ⊥

-- behind a word without the byte it stands first
pub sought_is : (bytes : List ℕ) (at byte end : ℕ) → HasSought bytes at byte end → (end < length bytes → get_or bytes end 0 ≡ byte)
    → (before word more : List ℕ) → All (λ b. b ≡ byte → ⊥) word → bytes ≡ before ++ (word ++ byte ∷ more) → length before ≡ at → end ≡ at + length word
sought_is bytes at byte end has stops before word more other is place =
    let one = length-append before (word ++ byte ∷ more) in
    let two = length-append word (byte ∷ more) in
    let whole = ap length is in
    elim (cases_order end (at + length word)) [
      | inl e ↦ e
      | inr (inl early) ↦ absurd (
          let i : ℕ = end - at in
          let here : end ≡ length before + i = omega (arith, has.low, place) in
          let inside : i < length word = omega (arith, has.low, early) in
          let same : get_or bytes end 0 ≡ get_or word i 0 =
          ap (λ x. get_or x end 0) is ∙ ap (λ k. get_or (before ++ (word ++ byte ∷ more)) k 0) here ∙ get_or-append-add before (word ++ byte ∷ more) i 0
          ∙ get_or_append_left word (byte ∷ more) 0 i inside in
          other i 0 inside (sym same ∙ stops (omega (arith, one, two, whole, early, place))))
      | inr (inr late) ↦ absurd (has.none (at + length word) (omega arith) late (
          ap (λ x. get_or x (at + length word) 0) is
          ∙ ap (λ k. get_or (before ++ (word ++ byte ∷ more)) (k + length word) 0) (sym place)
          ∙ get_or-append-add before (word ++ byte ∷ more) (length word) 0
          ∙ get_or-append_seam word byte more 0))
    ]

-- a literal without the space behind it
abbrev pub word_of : Literal → List ℕ
word_of l = sign_text l.negated ++ decimal l.letter.0

-- no digit and no sign is a space or a newline, and the first one of a number that is not 0 is no 0
sign_high : (negated : Bool) → All (λ b. 44 < b) (sign_text negated)
sign_high true = All-push (λ b. 44 < b) [] 45 (All-nil (λ b. 44 < b)) (omega arith)
sign_high false = All-nil (λ b. 44 < b)

pub word_high : (l : Literal) → IsLiteral l → All (λ b. 44 < b) (word_of l)
word_high l is = All-append (λ b. 44 < b) (sign_text l.negated) (decimal l.letter.0) (sign_high l.negated)
    (λ k d low. (let high = digits_high l.letter.0 (omega (arith, is)) k d low in omega (arith, high)))

first_positive : (n : ℕ) → 1 ≤ n → n ≤ greatest_u64 → 48 < get_or (decimal n) 0 0
first_positive n some few = decimal_by_steps P one more n (omega (arith, few)) some few
  where
    P : ℕ → List ℕ → Type 0
    P n ds = 1 ≤ n → n ≤ greatest_u64 → 48 < get_or ds 0 0

    one : (n : ℕ) → n < 10 → P n ((48 + n) ∷ [])
    one n small some few = omega (arith, some)

    more : (n : ℕ) (ds : List ℕ) → 10 ≤ n → P (n / 10) ds → P n (ds ++ ((48 + n % 10) ∷ []))
    more n [] big before some few = absurd (let low = before (omega (arith, big)) (omega (arith, few)) in omega (arith, low))
    more n (d ∷ ds) big before some few = before (omega (arith, big)) (omega (arith, few))

pub word_first : (l : Literal) (more : List ℕ) → IsLiteral l → get_or (word_of l ++ more) 0 0 ≡ 48 → ⊥
word_first l more is = go l.negated
  where
    go : (negated : Bool) → get_or ((sign_text negated ++ decimal l.letter.0) ++ more) 0 0 ≡ 48 → ⊥
    go true e = omega (arith, e)
    go false e =
        let some = decimal_nonempty l.letter.0 (omega (arith, is)) in
        let left = get_or_append_left (decimal l.letter.0) more 0 0 some in
        let high = first_positive l.letter.0 is.0 (omega (arith, is)) in
        omega (arith, left, high, e)

pub word_spelled : (l : Literal) (ls : List Literal) (more : List ℕ)
    → flat_map literal_text (l ∷ ls) ++ 48 ∷ more ≡ word_of l ++ 32 ∷ (flat_map literal_text ls ++ 48 ∷ more)
word_spelled l ls more =
    append_assoc (literal_text l) (flat_map literal_text ls) (48 ∷ more)
    ∙ apart (sign_text l.negated) (decimal l.letter.0) (codes " ") (flat_map literal_text ls ++ 48 ∷ more)
    ∙ sym (append_assoc (sign_text l.negated) (decimal l.letter.0) (32 ∷ (flat_map literal_text ls ++ 48 ∷ more)))

-- a slice from a place on, read
slice_at : (bytes hay : List ℕ) (at k : ℕ) → hay ≡ take (length bytes - at) (drop at bytes) → at + k < length bytes → get_or hay k 0 ≡ get_or bytes (at + k) 0
slice_at bytes hay at k is low =
    ap (λ xs. get_or xs k 0) is ∙ get_or-take (length bytes - at) (drop at bytes) k 0 (omega (arith, low)) ∙ get_or-drop at bytes k 0

slice_size : (bytes hay : List ℕ) (at : ℕ) → at ≤ length bytes → hay ≡ take (length bytes - at) (drop at bytes) → length hay ≡ length bytes - at
slice_size bytes hay at within is = ap length is ∙ length-take-le (length bytes - at) (drop at bytes) (omega (arith, length-drop at bytes))

-- the first place of a byte in the slice
pub sought_before : (bytes hay : List ℕ) (at byte end : ℕ) → at ≤ end → end ≤ length bytes → hay ≡ take (length bytes - at) (drop at bytes)
    → Nowhere (Passes (is_byte byte) hay) 0 (end - at) → HasSought bytes at byte end
sought_before bytes hay at byte end low high is nowhere = record {
  low = low;
  high = high;
  none = λ k from to same.
      let back : at + (k - at) ≡ k = omega (arith, from) in
      let there = slice_at bytes hay at (k - at) is (omega (arith, from, to, high)) ∙ ap (λ i. get_or bytes i 0) back ∙ same in
      nowhere (k - at) (omega arith) (omega (arith, from, to)) (eq-eqb (get_or hay (k - at) 0) byte there);
}

pub sought_nowhere : (bytes hay : List ℕ) (at byte : ℕ) → at ≤ length bytes → hay ≡ take (length bytes - at) (drop at bytes)
    → IsFirstByte (is_byte byte) hay None → HasSought bytes at byte (length bytes)
sought_nowhere bytes hay at byte within is none =
    sought_before bytes hay at byte (length bytes) within (omega arith) is
    (subst (λ n. Nowhere (Passes (is_byte byte) hay) 0 n) (slice_size bytes hay at within is) none)

pub sought_at : (bytes hay : List ℕ) (at byte k : ℕ) → at ≤ length bytes → hay ≡ take (length bytes - at) (drop at bytes)
    → IsFirstByte (is_byte byte) hay (Some k)
    → (at + k < length bytes) × HasSought bytes at byte (at + k) × (get_or bytes (at + k) 0 ≡ byte)
sought_at bytes hay at byte k within is first =
    let low : at + k < length bytes = omega (arith, first.0.high, slice_size bytes hay at within is, within) in
    let less : at + k - at ≡ k = omega arith in (
      low,
      sought_before bytes hay at byte (at + k) (omega arith) (omega (arith, low)) is
          (subst (λ n. Nowhere (Passes (is_byte byte) hay) 0 n) (sym less) first.0.before),
      sym (slice_at bytes hay at k is low) ∙ eqb-true (get_or hay k 0) byte first.1,
    )
