-- The strings of a JSON text are text: what stands between quotes is, and what an escape stands for.
use Rattle.std.proofs.Common.{◌≡◌, ℕ, zero, suc, ◌+◌, ◌*◌, ◌<◌, ◌≤◌, ◌⊎◌, inl, inr, Bool, true, false, ◌&&◌, ◌==◌, cond, nat_lt, List, []}
use Rattle.std.proofs.Common.{◌∷◌, ◌++◌, length, length-append, get_or, Option, Some, None, IsUtf8, refl, sym, ap, subst, ◌∙◌, arith, append-nil}
use Rattle.std.specs.Prelude.{option_and_then}
use mathlib.Core.Bool.{false≢true}
use Rattle.std.specs.Char.{digit_value, is_digit, encode_utf8, IsScalar}
use Rattle.std.proofs.lemmas.Bool.{cases_lt, eqb-true, ne_eqb, le-ltb}
use Rattle.std.proofs.lemmas.List.{append_assoc}
use Rattle.std.proofs.lemmas.Str.{IsUtf8-append, IsUtf8-nil, IsUtf8-drop, IsCharBoundary-after_ascii, IsUtf8-encode, encode_ascii, inside_one}
use Rattle.std.proofs.lemmas.Str.{len_utf8_bounds, length-encode}
use Rattle.std.proofs.Math.Utf8.{encode, encodes, scalars, scalar, low_scalar}
use Rattle.std.proofs.lemmas.Bool.Decides.{nat_tests}
use Rattle.json.specs.Text.{code_unit, short_escape, is_high_surrogate, is_low_surrogate, surrogate_pair, plain, after_backslash, after_u, after_high}
use Rattle.json.specs.Text.{prepend, content}

-- ---- text behind and in front of ASCII

behind_ascii : (x : ℕ) (xs : List ℕ) → x < 128 → IsUtf8 (x ∷ xs) → IsUtf8 xs
behind_ascii x xs low text = IsUtf8-drop (x ∷ xs) 1 text (IsCharBoundary-after_ascii (x ∷ xs) 0 text (omega arith) low)

one_ascii : (x : ℕ) → x < 128 → IsUtf8 (x ∷ [])
one_ascii x low = subst IsUtf8 (encode_ascii x low) (IsUtf8-encode x (low_scalar x (omega arith)))

-- ---- what an option has

prepended : (bytes : List ℕ) (rest : Option (List ℕ)) (out : List ℕ) → prepend bytes rest ≡ Some out
    → (more : List ℕ) × (rest ≡ Some more) × (bytes ++ more ≡ out)
prepended bytes None out e = cc
prepended bytes (Some more) out e = (more, refl, cc)

pub then_some : {A B : Type 0} (f : A → Option B) (o : Option A) (out : B) → option_and_then f o ≡ Some out → (a : A) × (o ≡ Some a) × (f a ≡ Some out)
then_some f None out e = cc
then_some f (Some a) out e = (a, refl, e)

when_true : {A : Type 0} (b : Bool) (x y : Option A) (out : A) → cond b x y ≡ Some out → ((b ≡ true) × (x ≡ Some out)) ⊎ ((b ≡ false) × (y ≡ Some out))
when_true true x y out e = inl (refl, e)
when_true false x y out e = inr (refl, e)

both_true : (a b : Bool) → (a && b) ≡ true → (a ≡ true) × (b ≡ true)
both_true true b e = (refl, e)
both_true false b e = absurd (false≢true e)

-- ---- escapes

digit_ascii : (x : ℕ) → is_digit x 16 ≡ true → (x < 128) × (digit_value x < 16)
digit_ascii x e = (grind (arith, nat_tests, e), grind (arith, nat_tests, e))

short_ascii : (x c : ℕ) → short_escape x ≡ Some c → (x < 128) × (c < 128)
unfolding short_escape
short_ascii x c e = grind (arith, nat_tests, e)

unit_ascii : (a b c d u : ℕ) → code_unit a b c d ≡ Some u → (a < 128) × (b < 128) × (c < 128) × (d < 128) × (u < 65536)
unfolding code_unit
unit_ascii a b c d u e = elim (when_true (is_digit a 16 && is_digit b 16 && is_digit c 16 && is_digit d 16)
    (Some (digit_value a * 4096 + digit_value b * 256 + digit_value c * 16 + digit_value d)) None u e) [
      | inr none ↦ let no : None ≡ Some u = none.1 in absurd (cc)
      | inl some ↦
          let one = both_true (is_digit a 16 && is_digit b 16 && is_digit c 16) (is_digit d 16) some.0 in
          let two = both_true (is_digit a 16 && is_digit b 16) (is_digit c 16) one.0 in
          let three = both_true (is_digit a 16) (is_digit b 16) two.0 in
          let w = digit_ascii a three.0 in
          let x = digit_ascii b three.1 in
          let y = digit_ascii c two.1 in
          let z = digit_ascii d one.1 in
          let value : digit_value a * 4096 + digit_value b * 256 + digit_value c * 16 + digit_value d ≡ u = cc in
          let p = w.1 in
          let q = x.1 in
          let r = y.1 in
          let s = z.1 in
          (w.0, x.0, y.0, z.0, omega (arith, value, p, q, r, s))
    ]

-- ---- what the escapes stand for

high_range : (u : ℕ) → is_high_surrogate u ≡ true → (0xd800 ≤ u) × (u < 0xdc00)
high_range u e = (grind (arith, nat_tests, e), grind (arith, nat_tests, e))

low_range : (u : ℕ) → is_low_surrogate u ≡ true → (0xdc00 ≤ u) × (u < 0xe000)
low_range u e = (grind (arith, nat_tests, e), grind (arith, nat_tests, e))

plain_scalar : (u : ℕ) → u < 65536 → is_high_surrogate u ≡ false → is_low_surrogate u ≡ false → IsScalar u
plain_scalar u low not_high not_low = grind (arith, nat_tests, low, not_high, not_low)

pair_scalar : (h l : ℕ) → h < 0xdc00 → 0xd800 ≤ h → 0xdc00 ≤ l → l < 0xe000 → IsScalar (surrogate_pair h l)
pair_scalar h l a b c d = grind (arith, nat_tests, a, b, c, d)

-- the content from `plain` on is text, for n bytes at most
abbrev TextsTo : ℕ → Type 0
TextsTo n = (xs out : List ℕ) → length xs ≤ n → IsUtf8 xs → content plain xs ≡ Some out → IsUtf8 out

-- bytes that are text, in front of what the content is from `plain` on
put_before : (n : ℕ) → TextsTo n → (bytes xs out : List ℕ) → IsUtf8 bytes → length xs ≤ n → IsUtf8 xs → prepend bytes (content plain xs) ≡ Some out
    → IsUtf8 out
put_before n rest bytes xs out text few more e =
    let w = prepended bytes (content plain xs) out e in
    subst IsUtf8 w.2 (IsUtf8-append bytes w.0 text (rest xs w.0 few more w.1))

four_behind : (a b c d : ℕ) (xs : List ℕ) → a < 128 → b < 128 → c < 128 → d < 128 → IsUtf8 (a ∷ b ∷ c ∷ d ∷ xs) → IsUtf8 xs
four_behind a b c d xs p q r s text =
    behind_ascii d xs s (behind_ascii c (d ∷ xs) r (behind_ascii b (c ∷ d ∷ xs) q (behind_ascii a (b ∷ c ∷ d ∷ xs) p text)))

high_text : (n h : ℕ) → TextsTo n → h < 0xdc00 → 0xd800 ≤ h → (xs out : List ℕ) → length xs ≤ n → IsUtf8 xs → content (after_high h) xs ≡ Some out → IsUtf8 out
unfolding content
high_text n h rest low high [] out few text e = cc
high_text n h rest low high (s ∷ []) out few text e = cc
high_text n h rest low high (s ∷ u ∷ []) out few text e = cc
high_text n h rest low high (s ∷ u ∷ a ∷ []) out few text e = cc
high_text n h rest low high (s ∷ u ∷ a ∷ b ∷ []) out few text e = cc
high_text n h rest low high (s ∷ u ∷ a ∷ b ∷ c ∷ []) out few text e = cc
high_text n h rest low high (s ∷ u ∷ a ∷ b ∷ c ∷ d ∷ xs) out few text e =
    elim (when_true ((s == 92) && (u == 117))
    (option_and_then (λ l. cond (is_low_surrogate l) (prepend (encode_utf8 (surrogate_pair h l)) (content plain xs)) None) (code_unit a b c d)) None out e) [
      | inr none ↦ let no : None ≡ Some out = none.1 in absurd (cc)
      | inl some ↦
          let marks = both_true (s == 92) (u == 117) some.0 in
          let slash : s ≡ 92 = eqb-true s 92 marks.0 in
          let letter : u ≡ 117 = eqb-true u 117 marks.1 in
          let w = then_some (λ l. cond (is_low_surrogate l) (prepend (encode_utf8 (surrogate_pair h l)) (content plain xs)) None) (code_unit a b c d) out
          some.1 in
          let digits = unit_ascii a b c d w.0 w.1 in
          elim (when_true (is_low_surrogate w.0) (prepend (encode_utf8 (surrogate_pair h w.0)) (content plain xs)) None out w.2) [
            | inr none ↦ let no : None ≡ Some out = none.1 in absurd (cc)
            | inl is ↦
                let range = low_range w.0 is.0 in
                let behind = four_behind a b c d xs digits.0 digits.1 digits.2 digits.3 (behind_ascii u (a ∷ b ∷ c ∷ d ∷ xs) (omega (arith, letter))
                (behind_ascii s (u ∷ a ∷ b ∷ c ∷ d ∷ xs) (omega (arith, slash)) text)) in
                put_before n rest (encode_utf8 (surrogate_pair h w.0)) xs out
                (IsUtf8-encode (surrogate_pair h w.0) (pair_scalar h w.0 low high range.0 range.1)) (omega (arith, few)) behind is.1
          ]
    ]

unicode_text : (n : ℕ) → TextsTo n → (xs out : List ℕ) → length xs ≤ n → IsUtf8 xs → content after_u xs ≡ Some out → IsUtf8 out
unfolding content
unicode_text n rest [] out few text e = cc
unicode_text n rest (a ∷ []) out few text e = cc
unicode_text n rest (a ∷ b ∷ []) out few text e = cc
unicode_text n rest (a ∷ b ∷ c ∷ []) out few text e = cc
unicode_text n rest (a ∷ b ∷ c ∷ d ∷ xs) out few text e =
    let goes : ℕ → Option (List ℕ) = λ u. cond (is_high_surrogate u) (content (after_high u) xs)
    (cond (is_low_surrogate u) None (prepend (encode_utf8 u) (content plain xs))) in
    let w = then_some goes (code_unit a b c d) out e in
    let digits = unit_ascii a b c d w.0 w.1 in
    let behind = four_behind a b c d xs digits.0 digits.1 digits.2 digits.3 text in
    elim (when_true (is_high_surrogate w.0) (content (after_high w.0) xs) (cond (is_low_surrogate w.0) None (prepend (encode_utf8 w.0) (content plain xs)))
    out w.2) [
      | inl high ↦ let range = high_range w.0 high.0 in high_text n w.0 rest range.1 range.0 xs out (omega (arith, few)) behind high.1
      | inr other ↦ elim (when_true (is_low_surrogate w.0) None (prepend (encode_utf8 w.0) (content plain xs)) out other.1) [
        | inl none ↦ let no : None ≡ Some out = none.1 in absurd (cc)
        | inr is ↦ put_before n rest (encode_utf8 w.0) xs out (IsUtf8-encode w.0 (plain_scalar w.0 digits.4 other.0 is.0)) (omega (arith, few)) behind is.1
      ]
    ]

escape_text : (n : ℕ) → TextsTo n → (xs out : List ℕ) → length xs ≤ n → IsUtf8 xs → content after_backslash xs ≡ Some out → IsUtf8 out
unfolding content
escape_text n rest [] out few text e = cc
escape_text n rest (x ∷ xs) out few text e =
    elim (when_true (x == 117) (content after_u xs) (option_and_then (λ c. prepend (c ∷ []) (content plain xs)) (short_escape x)) out e) [
      | inl u ↦ let is : x ≡ 117 = eqb-true x 117 u.0 in
          unicode_text n rest xs out (omega (arith, few)) (behind_ascii x xs (omega (arith, is)) text) u.1
      | inr other ↦
          let w = then_some (λ c. prepend (c ∷ []) (content plain xs)) (short_escape x) out other.1 in
          let low = short_ascii x w.0 w.1 in
          put_before n rest (w.0 ∷ []) xs out (one_ascii w.0 low.1) (omega (arith, few)) (behind_ascii x xs low.0 text) w.2
    ]

-- ---- characters that stand for themselves

abbrev AreHigh : List ℕ → Type 0
AreHigh bytes = (k : ℕ) → k < length bytes → 128 ≤ get_or bytes k 0

high_byte : (b : ℕ) (xs : List ℕ) → 128 ≤ b → content plain (b ∷ xs) ≡ prepend (b ∷ []) (content plain xs)
unfolding content
high_byte b xs high =
    λ j. cond (ne_eqb b 34 (λ e. omega (arith, e, high)) j) (Some [])
    (cond (ne_eqb b 92 (λ e. omega (arith, e, high)) j) (content after_backslash xs)
    (cond (le-ltb b 32 (omega (arith, high)) j) None (prepend (b ∷ []) (content plain xs))))

prepend_both : (a b : List ℕ) (r : Option (List ℕ)) → prepend a (prepend b r) ≡ prepend (a ++ b) r
prepend_both a b None = refl
prepend_both a b (Some s) = ap Some (sym (append_assoc a b s))

prepend_none : (r : Option (List ℕ)) → r ≡ prepend [] r
prepend_none None = refl
prepend_none (Some s) = refl

pass_high : (bytes xs : List ℕ) → AreHigh bytes → content plain (bytes ++ xs) ≡ prepend bytes (content plain xs)
pass_high [] xs high = prepend_none (content plain xs)
pass_high (b ∷ bytes) xs high =
    high_byte b (bytes ++ xs) (high 0 (omega arith))
    ∙ (ap (prepend (b ∷ [])) (pass_high bytes xs (λ k lt. high (suc k) (omega arith))) ∙ prepend_both (b ∷ []) bytes (content plain xs))

char_high : (c : ℕ) → 128 ≤ c → AreHigh (encode c)
char_high c high k lt = elim (cases_lt (get_or (encode c) k 0) 128) [
  | inr more ↦ more
  | inl low ↦ let e = inside_one c [] (encode c) k (sym (append-nil (encode c))) lt low in absurd (omega (arith, e, low, high))
]

scalar_parts : (a b : Bool) → (a && b) ≡ true → (a ≡ true) × (b ≡ true)
scalar_parts true b e = (refl, e)
scalar_parts false b e = absurd (false≢true e)

-- ---- the whole content

-- a byte that is ASCII, in front of text
ascii_text : (n : ℕ) → TextsTo n → (x : ℕ) (xs out : List ℕ) → x < 128 → length xs ≤ n → IsUtf8 xs → content plain (x ∷ xs) ≡ Some out → IsUtf8 out
unfolding content
ascii_text n rest x xs out low few text e =
    let later : Option (List ℕ) = cond (nat_lt x 32) None (prepend (x ∷ []) (content plain xs)) in
    elim (when_true (x == 34) (Some []) (cond (x == 92) (content after_backslash xs) later) out e) [
      | inl none ↦ let same : [] ≡ out = cc in subst IsUtf8 same IsUtf8-nil
      | inr more ↦ elim (when_true (x == 92) (content after_backslash xs) later out more.1) [
        | inl slash ↦ escape_text n rest xs out few text slash.1
        | inr own ↦ elim (when_true (nat_lt x 32) None (prepend (x ∷ []) (content plain xs)) out own.1) [
          | inl none ↦ let no : None ≡ Some out = none.1 in absurd (cc)
          | inr is ↦ put_before n rest (x ∷ []) xs out (one_ascii x low) few text is.1
        ]
      ]
    ]

plain_text : (n : ℕ) → TextsTo n
unfolding content
plain_text n [] out few text e = cc
plain_text zero (x ∷ xs) out few text e = absurd (omega arith)
plain_text (suc n) (x ∷ xs) out few text e = by (plain_text n) text.0 text.1.0 text.1.1
  where
    by : TextsTo n → (cs : List ℕ) → scalars cs ≡ true → encodes cs ≡ x ∷ xs → IsUtf8 out
    by rest [] all is = absurd (omega (arith, ap length is))
    by rest (c ∷ cs) all is =
        let parts = scalar_parts (scalar c) (scalars cs) all in
        let after : IsUtf8 (encodes cs) = (cs, (parts.1, refl)) in
        let bounds = len_utf8_bounds c in
        let long = length-encode c in
        let total = length-append (encode c) (encodes cs) in
        let whole = ap length is in
        let fewer : length (encodes cs) ≤ n = omega (arith, few, bounds.0, long, total, whole) in
        elim (cases_lt c 128) [
          | inl low ↦
              let own : c ∷ encodes cs ≡ x ∷ xs = ap (λ b. b ++ encodes cs) (sym (encode_ascii c low)) ∙ is in
              ascii_text n rest c (encodes cs) out low fewer after (ap (content plain) own ∙ e)
          | inr high ↦
              put_before n rest (encode c) (encodes cs) out (IsUtf8-encode c parts.0) fewer after
              (sym (pass_high (encode c) (encodes cs) (char_high c high)) ∙ (ap (content plain) is ∙ e))
        ]

-- the content of a string is text where what follows its quote is
pub content_text : (xs out : List ℕ) → IsUtf8 xs → content plain xs ≡ Some out → IsUtf8 out
content_text xs out text e = plain_text (length xs) xs out (omega arith) text e
