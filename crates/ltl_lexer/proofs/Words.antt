-- The bytes of words and of signs, and when a word or a sign is the longest token.
use Rattle.std.proofs.Common.{◌≡◌, ℕ, ◌<◌, ◌≤◌, ◌⊎◌, inl, inr, Bool, true, false, ◌&&◌, ◌||◌, ◌==◌, List, [], ◌∷◌, ◌++◌, length, get_or, arith, refl, sym, ap}
use Rattle.std.proofs.Common.{ap₂, ◌∙◌, subst, append_assoc, length-append}
use Rattle.std.specs.Prelude.{Option, Some, None, IsUtf8, if◌then◌else◌, encode_utf8, encode_utf8_all}
use Rattle.std.specs.Str.{all_scalars}
use Rattle.std.specs.Fmt.{decimal}
use Rattle.std.specs.List.{list_all}
use Rattle.std.specs.Char.{is_ascii_alphabetic, is_ascii_alphanumeric, IsScalar}
use Rattle.std.proofs.lemmas.Bool.{cases_lt, and_parts, or_cases}
use Rattle.std.proofs.lemmas.Bool.Decides.{nat_tests}
use Rattle.std.proofs.lemmas.List.{append-nil}
use Rattle.std.proofs.lemmas.Str.{inside_one, encode_ascii, length-encode, len_utf8_bounds}
use lib.Utf8.{low_scalar}
use borrow.Author.Tests.{eqb-true}
use Rattle.unicode_ident.specs.Ident.{is_xid_start, is_xid_continue}
use Rattle.unicode_ident.proofs.IdentLemmas.{is_xid_start-ascii, is_xid_continue-ascii, is_xid_start-is_xid_continue}
use Rattle.ltl_lexer.specs.declared.token.TokenKind.{TokenKind}
use Rattle.ltl_lexer.specs.declared.token.TokenKind.TheVariants as kinds
use Rattle.ltl_lexer.specs.declared.token.UnaryWord.{UnaryWord}
use Rattle.ltl_lexer.specs.declared.token.UnaryWord.TheVariants as unary
use Rattle.ltl_lexer.specs.declared.token.BinaryWord.TheVariants as binary
use Rattle.ltl_lexer.specs.Tokens.{sign, IsWord, word_kind, IsBounded, HasNumbers, Spells, IsLongest}
use Rattle.ltl_lexer.specs.Scanning.{front_bounded}
use Rattle.ltl_lexer.proofs.Bounded.{bounded_read, found_same}
use Rattle.ltl_lexer.proofs.Cuts.{cut_within}

abbrev pub is_word_byte : ℕ → Bool
is_word_byte b = is_ascii_alphanumeric b || (b == 95)

middle : (front : List ℕ) (b : ℕ) (back : List ℕ) → get_or (front ++ b ∷ back) (length front) 0 ≡ b
middle [] b back = refl
middle (x ∷ front) b back = middle front b back

char_of : (c : ℕ) (front : List ℕ) (b : ℕ) (back : List ℕ) → encode_utf8 c ≡ front ++ b ∷ back → b < 128 → c ≡ b
char_of c front b back e l =
    let here : get_or (encode_utf8 c) (length front) 0 ≡ b = ap (λ z. get_or z (length front) 0) e ∙ middle front b back in
    let long = ap length e ∙ length-append front (b ∷ back) in
    inside_one c [] (encode_utf8 c) (length front) (sym (append-nil (encode_utf8 c))) (omega arith) (omega arith) ∙ here

-- an ASCII byte of characters that all pass a test is one of these characters
pub chars_ascii : (p : ℕ → Bool) (cs : List ℕ) → list_all p cs ≡ true → (front : List ℕ) (b : ℕ) (back : List ℕ)
    → encode_utf8_all cs ≡ front ++ b ∷ back → b < 128 → p b ≡ true
chars_ascii p [] h [] b back e l = absurd (cc)
chars_ascii p [] h (x ∷ front) b back e l = absurd (cc)
chars_ascii p (c ∷ cs) h front b back e l =
    let w = and_parts (p c) (list_all p cs) h in
    elim (cut_within (encode_utf8 c) (encode_utf8_all cs) front b back e) [
      | inl k ↦ subst (λ z. p z ≡ true) (char_of c front b k.0 k.1 l) w.0
      | inr k ↦ chars_ascii p cs w.1 k.0 b back k.2 l
    ]

first_continues : (c : ℕ) → (is_xid_start c || (c == 95)) ≡ true → is_xid_continue c ≡ true
first_continues c h = elim (or_cases (is_xid_start c) (c == 95) h) [
  | inl s ↦ is_xid_start-is_xid_continue c s
  | inr e ↦ let k : c ≡ 95 = eqb-true c 95 e in ap is_xid_continue k ∙ is_xid_continue-ascii 95 (omega arith)
]

-- the ASCII bytes of a word
pub word_ascii : (bytes : List ℕ) → IsWord bytes → (front : List ℕ) (b : ℕ) (back : List ℕ) → bytes ≡ front ++ b ∷ back → b < 128 → is_word_byte b ≡ true
word_ascii bytes w front b back e l =
    let all : list_all is_xid_continue (w.first ∷ w.others) ≡ true =
    ap (λ z. z && list_all is_xid_continue w.others) (first_continues w.first w.starts) ∙ w.continues in
    sym (is_xid_continue-ascii b l) ∙ chars_ascii is_xid_continue (w.first ∷ w.others) all front b back (w.spelled ∙ e) l

-- the first byte of a word is no ASCII byte but of a word
pub word_front : (bytes : List ℕ) → IsWord bytes → (b : ℕ) × (bs : List ℕ) × (bytes ≡ b ∷ bs) × ((is_word_byte b ≡ true) ⊎ (128 ≤ b))
word_front [] w =
    let e = ap length w.spelled ∙ refl in
    let k = length-append (encode_utf8 w.first) (encode_utf8_all w.others) in
    let m = length-encode w.first in
    let n = len_utf8_bounds w.first in
    absurd (omega arith)
word_front (b ∷ bs) w = (b, bs, refl, elim (cases_lt b 128) [ inl l ↦ inl (word_ascii (b ∷ bs) w [] b bs refl l) | inr g ↦ inr g ])

other_byte : (b k : ℕ) → (is_word_byte b ≡ true) ⊎ (128 ≤ b) → k < 128 → is_word_byte k ≡ false → (b == k) ≡ false
other_byte b k h l n = go (b == k) refl
  where
    go : (t : Bool) → (b == k) ≡ t → t ≡ false
    go false e = refl
    go true e = let same : b ≡ k = eqb-true b k e in elim h [
      | inl w ↦ let u = ap is_word_byte same in absurd (cc)
      | inr g ↦ absurd (omega arith)
    ]

-- what begins as a word is no sign
pub sign_none : (b : ℕ) (bs : List ℕ) → (is_word_byte b ≡ true) ⊎ (128 ≤ b) → sign (b ∷ bs) ≡ None
sign_none b bs h =
    let e1 = other_byte b 33 h (omega arith) refl in
    let e2 = other_byte b 126 h (omega arith) refl in
    let e3 = other_byte b 38 h (omega arith) refl in
    let e4 = other_byte b 124 h (omega arith) refl in
    let e5 = other_byte b 45 h (omega arith) refl in
    let e6 = other_byte b 61 h (omega arith) refl in
    let e7 = other_byte b 60 h (omega arith) refl in
    let e8 = other_byte b 40 h (omega arith) refl in
    let e9 = other_byte b 41 h (omega arith) refl in
    simp (e1, e2, e3, e4, e5, e6, e7, e8, e9)

-- a bounded operator is a letter, an opening bracket, and more
pub bounded_front : (bytes : List ℕ) (word : UnaryWord) → IsBounded bytes word → (b : ℕ) × (inner : List ℕ) × (bytes ≡ b ∷ 91 ∷ inner) × (is_word_byte b ≡ true)
bounded_front bytes (unary.XTimes n) g = (88, decimal n ++ 93 ∷ [], g.1, refl)
bounded_front bytes (unary.YTimes n) g = (89, decimal n ++ 93 ∷ [], g.1, refl)
bounded_front bytes (unary.FIn a b) g = (70, ((decimal a ++ 44 ∷ []) ++ decimal b) ++ 93 ∷ [], g.2, refl)
bounded_front bytes (unary.GIn a b) g = (71, ((decimal a ++ 44 ∷ []) ++ decimal b) ++ 93 ∷ [], g.2, refl)
bounded_front bytes (unary.OIn a b) g = (79, ((decimal a ++ 44 ∷ []) ++ decimal b) ++ 93 ∷ [], g.2, refl)
bounded_front bytes (unary.HIn a b) g = (72, ((decimal a ++ 44 ∷ []) ++ decimal b) ++ 93 ∷ [], g.2, refl)
bounded_front bytes other g = absurd g

-- so it is no word
pub bounded_no_word : (bytes : List ℕ) (word : UnaryWord) → IsBounded bytes word → IsWord bytes → ⊥
bounded_no_word bytes word g w =
    let f = bounded_front bytes word g in
    let h = word_ascii bytes w (f.0 ∷ []) 91 f.1 f.2 (omega arith) in
    cc

-- what is no sign begins as a word
abbrev pub IsLike : List ℕ → TokenKind → Type 0
IsLike bytes kind = (IsWord bytes × (word_kind bytes ≡ kind)) ⊎ ((word : UnaryWord) × (kind ≡ kinds.Unary word) × IsBounded bytes word)

pub like_front : (bytes : List ℕ) (kind : TokenKind) → IsLike bytes kind → (b : ℕ) × (bs : List ℕ) × (bytes ≡ b ∷ bs) × ((is_word_byte b ≡ true) ⊎ (128 ≤ b))
like_front bytes kind (inl w) = word_front bytes w.0
like_front bytes kind (inr g) = let f = bounded_front bytes g.0 g.2 in (f.0, 91 ∷ f.1, f.2, inl f.3)

pub like_no_sign : (bytes : List ℕ) (kind : TokenKind) → IsLike bytes kind → sign bytes ≡ None
like_no_sign bytes kind w = let f = like_front bytes kind w in ap sign f.2 ∙ sign_none f.0 f.1 f.3

-- a spelling has a byte
pub spelling_not_empty : (bytes : List ℕ) (kind : TokenKind) → Spells bytes kind → 0 < length bytes
spelling_not_empty [] kind (inl s) = absurd (cc)
spelling_not_empty [] kind (inr w) = let f = (like_front [] kind w).2 in absurd (cc)
spelling_not_empty (b ∷ bs) kind s = omega arith

other_kind : (b : Bool) (k : TokenKind) (r : Option TokenKind) → (k ≡ kinds.Identifier → ⊥) → (r ≡ Some kinds.Identifier → ⊥)
    → (if b then Some k else r) ≡ Some kinds.Identifier → ⊥
other_kind true k r f g e = f (cc)
other_kind false k r f g e = g e

no_sign : (bytes : List ℕ) → sign bytes ≡ Some kinds.Identifier → ⊥
no_sign bytes = other_kind _ kinds.Not _ (λ (e : kinds.Not ≡ kinds.Identifier). cc) (other_kind _ kinds.And _ (λ (e : kinds.And ≡ kinds.Identifier). cc)
    (other_kind _ kinds.Or _ (λ (e : kinds.Or ≡ kinds.Identifier). cc) (other_kind _ kinds.Implies _ (λ (e : kinds.Implies ≡ kinds.Identifier). cc)
    (other_kind _ kinds.Iff _ (λ (e : kinds.Iff ≡ kinds.Identifier). cc) (other_kind _ kinds.OpenParen _ (λ (e : kinds.OpenParen ≡ kinds.Identifier). cc)
    (other_kind _ kinds.CloseParen _ (λ (e : kinds.CloseParen ≡ kinds.Identifier). cc) (λ (e : None ≡ Some kinds.Identifier). cc)))))))

-- what spells an identifier is a word that is not reserved
pub identifier_is_word : (bytes : List ℕ) → Spells bytes kinds.Identifier → IsWord bytes × (word_kind bytes ≡ kinds.Identifier)
identifier_is_word bytes (inl s) = absurd (no_sign bytes s)
identifier_is_word bytes (inr (inl w)) = w
identifier_is_word bytes (inr (inr w)) = let e = w.1 in absurd (cc)

-- the numbers of each operator that bytes spell
abbrev FitsKind : TokenKind → Type 0
FitsKind kinds.True = Unit {0}
FitsKind kinds.False = Unit {0}
FitsKind kinds.Not = Unit {0}
FitsKind kinds.And = Unit {0}
FitsKind kinds.Or = Unit {0}
FitsKind kinds.Implies = Unit {0}
FitsKind kinds.Iff = Unit {0}
FitsKind kinds.OpenParen = Unit {0}
FitsKind kinds.CloseParen = Unit {0}
FitsKind kinds.Identifier = Unit {0}
FitsKind (kinds.Unary word) = HasNumbers word
FitsKind (kinds.Binary word) = Unit {0}

either_kind : (b : Bool) (k r z : TokenKind) → FitsKind k → (r ≡ z → FitsKind z) → (if b then k else r) ≡ z → FitsKind z
either_kind true k r z p g e = subst FitsKind e p
either_kind false k r z p g e = g e

word_fits : (bytes : List ℕ) (z : TokenKind) → word_kind bytes ≡ z → FitsKind z
word_fits bytes z =
    either_kind _ kinds.True _ z tt (either_kind _ kinds.False _ z tt (either_kind _ (kinds.Unary unary.X) _ z tt (either_kind _ (kinds.Unary unary.WX)
    _ z tt (either_kind _ (kinds.Unary unary.F) _ z tt (either_kind _ (kinds.Unary unary.G) _ z tt (either_kind _ (kinds.Unary unary.Y) _ z tt (either_kind _
    (kinds.Unary unary.Z) _ z tt (either_kind _ (kinds.Unary unary.O) _ z tt (either_kind _ (kinds.Unary unary.H) _ z tt (either_kind _ (kinds.Binary binary.U)
    _ z tt (either_kind _ (kinds.Binary binary.R) _ z tt (either_kind _ (kinds.Binary binary.W) _ z tt (either_kind _ (kinds.Binary binary.M) _ z tt
    (either_kind _ (kinds.Binary binary.S) _ z tt (either_kind _ (kinds.Binary binary.T) kinds.Identifier z tt (λ e. subst FitsKind e tt))))))))))))))))

either_sign : (b : Bool) (k z : TokenKind) (r : Option TokenKind) → FitsKind k → (r ≡ Some z → FitsKind z) → (if b then Some k else r) ≡ Some z → FitsKind z
either_sign true k z r p g e = let h : k ≡ z = cc in subst FitsKind h p
either_sign false k z r p g e = g e

sign_fits : (bytes : List ℕ) (z : TokenKind) → sign bytes ≡ Some z → FitsKind z
sign_fits bytes z = either_sign _ kinds.Not z _ tt (either_sign _ kinds.And z _ tt (either_sign _ kinds.Or z _ tt (either_sign _ kinds.Implies z _ tt
    (either_sign _ kinds.Iff z _ tt (either_sign _ kinds.OpenParen z _ tt (either_sign _ kinds.CloseParen z None tt (λ e. absurd (cc))))))))

bounded_fits : (bytes : List ℕ) (word : UnaryWord) → IsBounded bytes word → HasNumbers word
bounded_fits bytes (unary.XTimes n) g = g.0
bounded_fits bytes (unary.YTimes n) g = g.0
bounded_fits bytes (unary.FIn a b) g = (g.0, g.1)
bounded_fits bytes (unary.GIn a b) g = (g.0, g.1)
bounded_fits bytes (unary.OIn a b) g = (g.0, g.1)
bounded_fits bytes (unary.HIn a b) g = (g.0, g.1)
bounded_fits bytes other g = tt

pub numbers_fit : (bytes : List ℕ) (kind : TokenKind) (word : UnaryWord) → Spells bytes kind → kind ≡ kinds.Unary word → HasNumbers word
numbers_fit bytes kind word (inl s) e = subst FitsKind e (sign_fits bytes kind s)
numbers_fit bytes kind word (inr (inl w)) e = subst FitsKind e (word_fits bytes kind w.1)
numbers_fit bytes kind word (inr (inr w)) e = subst FitsKind (sym w.1 ∙ e) (bounded_fits bytes w.0 w.2)

pub word_utf8 : (bytes : List ℕ) → IsWord bytes → IsUtf8 bytes
word_utf8 bytes w = (w.first ∷ w.others, (w.characters, w.spelled))

-- no word begins with an opening brace
pub no_brace : (rest : List ℕ) → IsWord (123 ∷ rest) → ⊥
no_brace rest w = let h = word_ascii (123 ∷ rest) w [] 123 rest refl (omega arith) in cc

-- no word and no bounded operator goes on with the front of the text
abbrev pub Breaks : List ℕ → Type 0
Breaks [] = Unit {0}
Breaks (b ∷ bs) = (b < 128) × (is_word_byte b ≡ false) × ((b == 91) ≡ false)

word_bracket : (bytes : List ℕ) (x : ℕ) (more : List ℕ) (b : ℕ) (inner : List ℕ) → IsWord bytes → bytes ++ x ∷ more ≡ b ∷ 91 ∷ inner → (x == 91) ≡ false → ⊥
word_bracket [] x more b inner w e n = let f = (word_front [] w).2 in cc
word_bracket (k ∷ []) x more b inner w e n = let h : x ≡ 91 = cc in let u = ap (λ z. z == 91) h in cc
word_bracket (k ∷ y ∷ ys) x more b inner w e n =
    let h : y ≡ 91 = cc in
    let t = word_ascii (k ∷ y ∷ ys) w (k ∷ []) 91 ys (ap (λ z. k ∷ z ∷ ys) h) (omega arith) in
    cc

pub word_longest : (kind : TokenKind) (bytes rest : List ℕ) → IsWord bytes → word_kind bytes ≡ kind → Breaks rest → IsLongest kind bytes rest
word_longest kind bytes rest w k br = record { spells = inr (inl (w, k)); longest = go }
  where
    go : (more after : List ℕ) (other : TokenKind) → rest ≡ more ++ after → 0 < length more → Spells (bytes ++ more) other → ⊥
    go [] after other e pos s = absurd (omega arith)
    go (x ∷ more) after other e pos s =
        let b = subst Breaks e br in
        elim s [
          | inl sg ↦
              let f = word_front bytes w in
              let n = sign_none f.0 (f.1 ++ x ∷ more) f.3 in
              let m = ap (λ z. sign (z ++ x ∷ more)) f.2 in
              absurd (cc)
          | inr (inl v) ↦ let t = word_ascii (bytes ++ x ∷ more) v.0 bytes x more refl b.0 in let u = b.1 in absurd (cc)
          | inr (inr v) ↦ let f = bounded_front (bytes ++ x ∷ more) v.0 v.2 in absurd (word_bracket bytes x more f.0 f.1 w f.2 b.2)
        ]

-- a bounded operator is the longest token, whatever stands behind it
pub bounded_longest : (word : UnaryWord) (bytes rest : List ℕ) → IsBounded bytes word → IsLongest (kinds.Unary word) bytes rest
bounded_longest word bytes rest g = record { spells = inr (inr (word, refl, g)); longest = go }
  where
    go : (more after : List ℕ) (other : TokenKind) → rest ≡ more ++ after → 0 < length more → Spells (bytes ++ more) other → ⊥
    go more after other e pos (inl sg) =
        let f = bounded_front bytes word g in
        let n = sign_none f.0 (91 ∷ (f.1 ++ more)) (inl f.3) in
        let m = ap (λ z. sign (z ++ more)) f.2 in
        absurd (cc)
    go more after other e pos (inr (inl v)) =
        let f = bounded_front bytes word g in
        let t = word_ascii (bytes ++ more) v.0 (f.0 ∷ []) 91 (f.1 ++ more) (ap (λ z. z ++ more) f.2) (omega arith) in
        absurd (cc)
    go more after other e pos (inr (inr v)) =
        let here = bounded_read word bytes rest g in
        let there = bounded_read v.0 (bytes ++ more) after v.2 in
        let whole : bytes ++ rest ≡ (bytes ++ more) ++ after = ap (λ z. bytes ++ z) e ∙ sym (append_assoc bytes more after) in
        let n = (found_same word v.0 (length bytes) (length (bytes ++ more)) (sym here ∙ ap front_bounded whole ∙ there)).1 in
        let l = length-append bytes more in
        absurd (omega arith)

pub sign_longest : (kind : TokenKind) (b : ℕ) (bs rest : List ℕ) → sign (b ∷ bs) ≡ Some kind → b < 128 → is_word_byte b ≡ false →
    ((x : ℕ) (more after : List ℕ) → rest ≡ x ∷ more ++ after → sign (b ∷ (bs ++ x ∷ more)) ≡ None) → IsLongest kind (b ∷ bs) rest
sign_longest kind b bs rest s l n none = record { spells = inl s; longest = go }
  where
    go : (more after : List ℕ) (other : TokenKind) → rest ≡ more ++ after → 0 < length more → Spells ((b ∷ bs) ++ more) other → ⊥
    go [] after other e pos t = absurd (omega arith)
    go (x ∷ more) after other e pos t = elim t [
      | inl sg ↦ let u = none x more after e in absurd (cc)
      | inr v ↦
          let f = like_front (b ∷ (bs ++ x ∷ more)) other v in
          let h = f.2 in
          let same : f.0 ≡ b = cc in
          elim f.3 [
            | inl y ↦ let u = ap is_word_byte same in absurd (cc)
            | inr y ↦ absurd (omega arith)
          ]
    ]

byte_continues : (b : ℕ) → is_word_byte b ≡ true → (b < 128) × (is_xid_continue b ≡ true) × IsScalar b
byte_continues b h =
    let l : b < 128 = grind (arith, nat_tests) in
    (l, is_xid_continue-ascii b l ∙ h, low_scalar b (omega arith))

-- ASCII words
pub ascii_others : (bs : List ℕ) → list_all is_word_byte bs ≡ true → (list_all is_xid_continue bs ≡ true) × (all_scalars bs ≡ true) × (encode_utf8_all bs ≡ bs)
ascii_others [] h = (refl, refl, refl)
ascii_others (b ∷ bs) h =
    let w = and_parts (is_word_byte b) (list_all is_word_byte bs) h in
    let c = byte_continues b w.0 in
    let r = ascii_others bs w.1 in
    (ap₂ (λ p q. p && q) c.1 r.0, ap₂ (λ p q. p && q) c.2 r.1, ap₂ (λ p q. p ++ q) (encode_ascii b c.0) r.2)

pub ascii_word : (b : ℕ) (bs : List ℕ) → is_ascii_alphabetic b ≡ true → list_all is_word_byte (b ∷ bs) ≡ true → IsWord (b ∷ bs)
ascii_word b bs a h =
    let w = and_parts (is_word_byte b) (list_all is_word_byte bs) h in
    let c = byte_continues b w.0 in
    let r = ascii_others (b ∷ bs) h in
    record {
      first = b;
      others = bs;
      starts = ap (λ z. z || (b == 95)) (is_xid_start-ascii b c.0 ∙ a);
      continues = (ascii_others bs w.1).0;
      characters = r.1;
      spelled = r.2;
    }
