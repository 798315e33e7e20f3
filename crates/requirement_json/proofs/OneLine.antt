-- What serde_json writes without layout has no newline: those of a text are escaped.
use Rattle.std.proofs.Common.{◌≡◌, ℕ, zero, suc, ◌+◌, ◌/◌, ◌%◌, ◌<◌, ◌==◌, ◌||◌, nat_lt, cond, Bool, true, false, List, [], ◌∷◌, ◌++◌, flat_map, pos, negsuc}
use Rattle.std.proofs.Common.{refl, ◌∙◌, arith, ne_eqb}
use Rattle.std.proofs.lemmas.List.Folds.{list_any-append}
use Rattle.std.specs.Char.{digit_char}
use Rattle.std.specs.Fmt.{digit_glyph, digits_onto, digits, decimal}
use Rattle.json.specs.Print.{escape_letter, escape_byte, escape, quoted}
use Rattle.serde_json.specs.Data.{Num, unsigned, negative, float, Data, null, boolean, number, string, array, object, Items, no_items, item, Members}
use Rattle.serde_json.specs.Data.{no_members, member}
use Rattle.serde_json.specs.Written.{number_text, comma_if, compact_text, items_text, members_text}
use Rattle.requirement_json.specs.Laws.{has_newline}

both : (xs ys : List ℕ) → has_newline xs ≡ false → has_newline ys ≡ false → has_newline (xs ++ ys) ≡ false
both xs ys h g = list_any-append (λ b. b == 10) xs ys ∙ rw (h, g) refl

one_of_bytes : (t : Bool) (a b : ℕ) → (t ≡ true → (a == 10) ≡ false) → (t ≡ false → (b == 10) ≡ false) → (cond t a b == 10) ≡ false
one_of_bytes true a b h g = h refl
one_of_bytes false a b h g = g refl

one_of_texts : (t : Bool) (xs ys : List ℕ) → (t ≡ true → has_newline xs ≡ false) → (t ≡ false → has_newline ys ≡ false) → has_newline (cond t xs ys) ≡ false
one_of_texts true xs ys h g = h refl
one_of_texts false xs ys h g = g refl

greater : (b : ℕ) → 10 < b → (b == 10) ≡ false
greater b h = ne_eqb b 10 (omega arith)

-- ---- strings

digit_line : (d : ℕ) → (digit_char d == 10) ≡ false
digit_line d = one_of_bytes (nat_lt d 10) (48 + d) (87 + d) (λ e. greater (48 + d) (omega arith)) (λ e. greater (87 + d) (omega arith))

plain_letter : (x : ℕ) → ((x == 34) || (x == 92)) ≡ true → (x == 10) ≡ false
plain_letter x e = grind arith

letter_line : (x : ℕ) → (escape_letter x == 10) ≡ false
letter_line x =
    one_of_bytes ((x == 34) || (x == 92)) x _ (plain_letter x)
    (λ e. one_of_bytes (x == 8) 98 _ (λ h. refl) (λ h. one_of_bytes (x == 12) 102 _ (λ h. refl) (λ h. one_of_bytes (x == 10) 110 _ (λ h. refl)
    (λ h. one_of_bytes (x == 13) 114 _ (λ h. refl) (λ h. one_of_bytes (x == 9) 116 0 (λ h. refl) (λ h. refl))))))

printed_line : (x : ℕ) → nat_lt x 32 ≡ false → (x == 10) ≡ false
printed_line x e = grind arith

byte_line : (x : ℕ) → has_newline (escape_byte x) ≡ false
unfolding escape_byte
byte_line x =
    one_of_texts (nat_lt 0 (escape_letter x)) (92 ∷ escape_letter x ∷ []) _ (λ e. rw (letter_line x) refl)
    (λ e. one_of_texts (nat_lt x 32) (92 ∷ 117 ∷ 48 ∷ 48 ∷ digit_char (x / 16) ∷ digit_char (x % 16) ∷ []) (x ∷ []) (λ h. rw (
      digit_line (x / 16),
      digit_line (x % 16),
    ) refl)
    (λ h. rw (printed_line x h) refl))

escape_line : (s : List ℕ) → has_newline (escape s) ≡ false
escape_line [] = refl
escape_line (b ∷ bs) = both (escape_byte b) (flat_map escape_byte bs) (byte_line b) (escape_line bs)

quoted_line : (s : List ℕ) → has_newline (quoted s) ≡ false
quoted_line s = both (escape s) (34 ∷ []) (escape_line s) refl

-- ---- numbers

glyph_line : (d : ℕ) → (digit_glyph false d == 10) ≡ false
glyph_line d = one_of_bytes (nat_lt d 10) (48 + d) (87 + d) (λ e. greater (48 + d) (omega arith)) (λ e. greater (87 + d) (omega arith))

digits_line : (k n : ℕ) (behind : List ℕ) → has_newline behind ≡ false → has_newline (digits_onto k 10 false n behind) ≡ false
digits_line zero n behind h = h
digits_line (suc k) n behind h =
    let d = digit_glyph false (n % 10) in
    let more : has_newline (d ∷ behind) ≡ false = rw (glyph_line (n % 10)) h in
    one_of_texts (n / 10 == 0) (d ∷ behind) (digits_onto k 10 false (n / 10) (d ∷ behind)) (λ e. more) (λ e. digits_line k (n / 10) (d ∷ behind) more)

decimal_line : (n : ℕ) → has_newline (decimal n) ≡ false
unfolding digits
decimal_line n = digits_line 64 n [] refl

number_line : (n : Num) → has_newline (number_text n) ≡ false
number_line (unsigned n) = decimal_line n
number_line (negative (pos n)) = decimal_line n
number_line (negative (negsuc n)) = decimal_line (suc n)
number_line (float x) = refl

-- ---- values

comma_line : (later : Bool) → has_newline (comma_if later) ≡ false
comma_line true = refl
comma_line false = refl

mutual
  pub value_line : (d : Data) → has_newline (compact_text d) ≡ false
  value_line null = refl
  value_line (boolean true) = refl
  value_line (boolean false) = refl
  value_line (number n) = number_line n
  value_line (string s) = quoted_line s
  value_line (array ds) = items_line false ds
  value_line (object ms) = members_line false ms

  items_line : (later : Bool) (ds : Items) → has_newline (items_text later ds) ≡ false
  items_line later no_items = refl
  items_line later (item d ds) =
      both (comma_if later) (compact_text d ++ items_text true ds) (comma_line later)
      (both (compact_text d) (items_text true ds) (value_line d) (items_line true ds))

  members_line : (later : Bool) (ms : Members) → has_newline (members_text later ms) ≡ false
  members_line later no_members = refl
  members_line later (member k d ms) =
      both (comma_if later) (quoted k ++ 58 ∷ (compact_text d ++ members_text true ms)) (comma_line later)
      (both (quoted k) (58 ∷ (compact_text d ++ members_text true ms)) (quoted_line k)
      (both (compact_text d) (members_text true ms) (value_line d) (members_line true ms)))
