-- Internal: what the private functions of the scan answer, about the front of a text. No public contract cites this file.
use Rattle.std.specs.Prelude.{◌≡◌, ℕ, zero, suc, ◌+◌, ◌*◌, ◌-◌, ◌<◌, ◌≤◌, Bool, true, false, ◌||◌, ◌&&◌, ◌==◌, List, [], ◌∷◌, ◌++◌, length, take, drop, Option}
use Rattle.std.specs.Prelude.{Some, None, if◌then◌else◌, encode_utf8, nat_le}
use Rattle.std.specs.Char.{IsScalar, is_ascii_digit}
use Rattle.unicode_ident.specs.Ident.{is_xid_start, is_xid_continue}
use Rattle.ltl_lexer.specs.declared.token.TokenKind.{TokenKind}
use Rattle.ltl_lexer.specs.declared.token.TokenKind.TheVariants as kinds
use Rattle.ltl_lexer.specs.declared.token.UnaryWord.{UnaryWord}
use Rattle.ltl_lexer.specs.declared.token.UnaryWord.TheVariants as unary
use Rattle.ltl_lexer.specs.Tokens.{IsWord}

-- the first byte is k
abbrev pub begins : List ℕ → ℕ → Bool
begins [] k = false
begins (x ∷ xs) k = x == k

-- the second byte is k
abbrev pub begins_second : List ℕ → ℕ → Bool
begins_second [] k = false
begins_second (x ∷ xs) k = begins xs k

-- the longest sign at the front, and its length
abbrev pub front_sign : List ℕ → Option (TokenKind × ℕ)
front_sign [] = None
front_sign (b ∷ bs) =
    if (b == 33) || (b == 126) then Some (kinds.Not, 1)
    else (if b == 38 then Some (kinds.And, (if begins bs 38 then 2 else 1))
    else (if b == 124 then Some (kinds.Or, (if begins bs 124 then 2 else 1))
    else (if b == 40 then Some (kinds.OpenParen, 1)
    else (if b == 41 then Some (kinds.CloseParen, 1)
    else (if (b == 45) || (b == 61) then (if begins bs 62 then Some (kinds.Implies, 2) else None)
    else (if (b == 60) && ((begins bs 45 || begins bs 61) && begins_second bs 62) then Some (kinds.Iff, 3)
    else None))))))

-- whether a character may stand in a word, first or later
abbrev pub passes : Bool → ℕ → Bool
passes true c = is_xid_start c || (c == 95)
passes false c = is_xid_continue c

-- the text begins with a character of a word, of this number of bytes; 0 where it does not
pub record FrontChar (first : Bool) (text : List ℕ) (size : ℕ) : Type 0 where
  pub char : 0 < size → (c : ℕ) × IsScalar c × (passes first c ≡ true) × (text ≡ encode_utf8 c ++ drop size text) × (length (encode_utf8 c) ≡ size)
  pub none : size ≡ 0 → (c : ℕ) (rest : List ℕ) → IsScalar c → text ≡ encode_utf8 c ++ rest → passes first c ≡ false

-- no word goes on where the text does
abbrev pub EndsWord : List ℕ → List ℕ → Type 0
EndsWord word rest = (more after : List ℕ) → rest ≡ more ++ after → 0 < length more → IsWord (word ++ more) → ⊥

-- the longest word at the front is so long; 0 where there is none
pub record FrontWord (text : List ℕ) (size : ℕ) : Type 0 where
  pub within : size ≤ length text
  pub word : 0 < size → IsWord (take size text) × EndsWord (take size text) (drop size text)
  pub none : size ≡ 0 → EndsWord [] text

-- the digit at this place
abbrev pub digit_at : List ℕ → ℕ → Option ℕ
digit_at [] i = None
digit_at (b ∷ bs) zero = if is_ascii_digit b then Some (b - 48) else None
digit_at (b ∷ bs) (suc i) = digit_at bs i

-- the number of one digit, of two or of three, and its length
abbrev pub three_digits : ℕ → ℕ → Option ℕ → Option (ℕ × ℕ)
three_digits x y None = Some (10 * x + y, 2)
three_digits x y (Some z) = if nat_le (100 * x + 10 * y + z) 255 then Some (100 * x + 10 * y + z, 3) else None

abbrev pub two_digits : ℕ → Option ℕ → Option ℕ → Option (ℕ × ℕ)
two_digits x None third = Some (x, 1)
two_digits x (Some y) third = if x == 0 then None else three_digits x y third

abbrev pub one_digit : Option ℕ → Option ℕ → Option ℕ → Option (ℕ × ℕ)
one_digit None second third = None
one_digit (Some x) second third = two_digits x second third

-- the number at the front, of at most three digits and without leading zeros, and its length
abbrev pub front_number : List ℕ → Option (ℕ × ℕ)
front_number text = one_digit (digit_at text 0) (digit_at text 1) (digit_at text 2)

-- a number between brackets, and the length of it all
abbrev pub closed_times : List ℕ → Option (ℕ × ℕ) → Option (ℕ × ℕ)
closed_times bs None = None
closed_times bs (Some r) = if begins (drop r.1 bs) 93 then Some (r.0, r.1 + 2) else None

abbrev pub front_times : List ℕ → Option (ℕ × ℕ)
front_times [] = None
front_times (b ∷ bs) = if b == 91 then closed_times bs (front_number bs) else None

-- two numbers between brackets, in order, and the length of it all
abbrev pub closed_range : List ℕ → ℕ → ℕ → Option (ℕ × ℕ) → Option (ℕ × ℕ × ℕ)
closed_range bs a len None = None
closed_range bs a len (Some r) = if nat_le a r.0 && begins (drop (len + 1 + r.1) bs) 93 then Some (a, r.0, len + r.1 + 3) else None

abbrev pub second_number : List ℕ → Option (ℕ × ℕ) → Option (ℕ × ℕ × ℕ)
second_number bs None = None
second_number bs (Some r) = if begins (drop r.1 bs) 44 then closed_range bs r.0 r.1 (front_number (drop (r.1 + 1) bs)) else None

abbrev pub front_range : List ℕ → Option (ℕ × ℕ × ℕ)
front_range [] = None
front_range (b ∷ bs) = if b == 91 then second_number bs (front_number bs) else None

-- the bounded operator at the front, and its length
abbrev pub with_times : (ℕ → UnaryWord) → Option (ℕ × ℕ) → Option (UnaryWord × ℕ)
with_times word None = None
with_times word (Some r) = Some (word r.0, r.1 + 1)

abbrev pub with_range : (ℕ → ℕ → UnaryWord) → Option (ℕ × ℕ × ℕ) → Option (UnaryWord × ℕ)
with_range word None = None
with_range word (Some r) = Some (word r.0 r.1, r.2 + 1)

abbrev pub front_bounded : List ℕ → Option (UnaryWord × ℕ)
front_bounded [] = None
front_bounded (b ∷ bs) =
    if b == 88 then with_times unary.XTimes (front_times bs)
    else (if b == 89 then with_times unary.YTimes (front_times bs)
    else (if b == 70 then with_range unary.FIn (front_range bs)
    else (if b == 71 then with_range unary.GIn (front_range bs)
    else (if b == 79 then with_range unary.OIn (front_range bs)
    else (if b == 72 then with_range unary.HIn (front_range bs)
    else None)))))
