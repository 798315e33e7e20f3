-- A text that has tokens has no separator line: no token begins with two dashes, and none has a newline in it. So what is joined to such a text
-- by a separator line is cut there.
use Rattle.std.proofs.Common.{◌≡◌, ◌∙◌, ◌⊎◌, ℕ, ◌<◌, ◌≤◌, inl, inr, Bool, true, false, ◌&&◌, ◌||◌, ◌==◌, List, [], ◌∷◌, ◌++◌, length, codes, refl, sym, ap, ap₂}
use Rattle.std.proofs.Common.{subst, arith, append_assoc, length-append}
use Rattle.std.specs.Prelude.{Option, Some, None, if◌then◌else◌, bytes_eq, not}
use Rattle.std.specs.Fmt.{decimal}
use Rattle.std.specs.List.{list_all, list_any}
use Rattle.std.specs.Char.{digit_value}
use Rattle.std.specs.Str.Parse.{AllDigits}
use Rattle.std.proofs.lemmas.Bool.{and_parts}
use Rattle.std.proofs.lemmas.Fmt.{decimal_is_IsNumeral}
use Rattle.std.proofs.lemmas.List.Folds.{list_all-append, list_any-append}
use Rattle.std.proofs.lemmas.Slice.Eq.{bytes_eq-Decides}
use borrow.Author.Tests.{eqb-true}
use Rattle.ltl_lexer.specs.declared.token.Token.{Token}
use Rattle.ltl_lexer.specs.declared.token.TokenKind.{TokenKind}
use Rattle.ltl_lexer.specs.declared.token.TokenKind.TheVariants as kinds
use Rattle.ltl_lexer.specs.declared.token.UnaryWord.{UnaryWord}
use Rattle.ltl_lexer.specs.declared.token.UnaryWord.TheVariants as unary
use Rattle.ltl_lexer.specs.Tokens.{is_white, AreWhite, sign, IsBounded, Spells, AreTokens}
use Rattle.ltl_lexer.proofs.Cuts.{cut_within}
use Rattle.ltl_lexer.proofs.Words.{word_ascii, bounded_front, is_word_byte}
use Rattle.program_input.specs.Parts.{newline, IsSeparator, EndsLine, IsLine, IsCut}

-- ---- what the bytes of a token are not

abbrev has_newline : List ℕ → Bool
has_newline bytes = list_any (λ b. b == 10) bytes

abbrev begins_with_dash : List ℕ → Bool
begins_with_dash [] = false
begins_with_dash (b ∷ bs) = b == 45

or_true : (t : Bool) → (t || true) ≡ true
or_true true = refl
or_true false = refl

newline_found : (front back : List ℕ) → has_newline (front ++ 10 ∷ back) ≡ true
newline_found front back = list_any-append (λ b. b == 10) front (10 ∷ back) ∙ or_true (has_newline front)

none_joined : (xs ys : List ℕ) → has_newline xs ≡ false → has_newline ys ≡ false → has_newline (xs ++ ys) ≡ false
none_joined xs ys p q = list_any-append (λ b. b == 10) xs ys ∙ ap₂ (λ s t. s || t) p q

-- there is no newline, and where there is a dash at the front, this is the arrow
abbrev fits : List ℕ → Bool
fits bytes = not (has_newline bytes) && (not (begins_with_dash bytes) || bytes_eq bytes (codes "->"))

two_signs : (a b : List ℕ) (k kind : TokenKind) (r : Option TokenKind) (bytes : List ℕ) → fits a ≡ true → fits b ≡ true → (r ≡ Some kind → fits bytes ≡ true)
    → (if bytes_eq bytes a || bytes_eq bytes b then Some k else r) ≡ Some kind → fits bytes ≡ true
two_signs a b k kind r bytes p q more = go (bytes_eq bytes a) (bytes_eq bytes b) refl refl
  where
    go : (s t : Bool) → bytes_eq bytes a ≡ s → bytes_eq bytes b ≡ t → (if s || t then Some k else r) ≡ Some kind → fits bytes ≡ true
    go true t u v e = ap fits ((bytes_eq-Decides bytes a).0 u) ∙ p
    go false true u v e = ap fits ((bytes_eq-Decides bytes b).0 v) ∙ q
    go false false u v e = more e

one_sign : (a : List ℕ) (k kind : TokenKind) (r : Option TokenKind) (bytes : List ℕ) → fits a ≡ true → (r ≡ Some kind → fits bytes ≡ true)
    → (if bytes_eq bytes a then Some k else r) ≡ Some kind → fits bytes ≡ true
one_sign a k kind r bytes p more = go (bytes_eq bytes a) refl
  where
    go : (s : Bool) → bytes_eq bytes a ≡ s → (if s then Some k else r) ≡ Some kind → fits bytes ≡ true
    go true u e = ap fits ((bytes_eq-Decides bytes a).0 u) ∙ p
    go false u e = more e

sign_fits : (bytes : List ℕ) (kind : TokenKind) → sign bytes ≡ Some kind → fits bytes ≡ true
sign_fits bytes kind =
    two_signs (codes "!") (codes "~") kinds.Not kind _ bytes refl refl
    (two_signs (codes "&") (codes "&&") kinds.And kind _ bytes refl refl
    (two_signs (codes "|") (codes "||") kinds.Or kind _ bytes refl refl
    (two_signs (codes "->") (codes "=>") kinds.Implies kind _ bytes refl refl
    (two_signs (codes "<->") (codes "<=>") kinds.Iff kind _ bytes refl refl
    (one_sign (codes "(") kinds.OpenParen kind _ bytes refl
    (one_sign (codes ")") kinds.CloseParen kind None bytes refl (λ e. absurd (cc))))))))

digits_plain : (ds : List ℕ) → AllDigits 10 ds → has_newline ds ≡ false
digits_plain [] h = refl
digits_plain (c ∷ cs) (d, h) = digit_plain (c == 10) (digits_plain cs h) refl
  where
    digit_plain : (t : Bool) → has_newline cs ≡ false → (c == 10) ≡ t → (t || has_newline cs) ≡ false
    digit_plain true rest e = let x : digit_value 10 < 10 = subst (λ v. digit_value v < 10) (eqb-true c 10 e) d in absurd (omega (arith, x))
    digit_plain false rest e = rest

decimal_plain : (n : ℕ) → n ≤ 255 → has_newline (decimal n) ≡ false
decimal_plain n h = digits_plain (decimal n) (decimal_is_IsNumeral n (omega (arith, h))).0.1

times_plain : (n : ℕ) → n ≤ 255 → has_newline (decimal n ++ 93 ∷ []) ≡ false
times_plain n h = none_joined (decimal n) (93 ∷ []) (decimal_plain n h) refl

range_plain : (a b : ℕ) → a ≤ b → b ≤ 255 → has_newline (((decimal a ++ 44 ∷ []) ++ decimal b) ++ 93 ∷ []) ≡ false
range_plain a b h k =
    none_joined ((decimal a ++ 44 ∷ []) ++ decimal b) (93 ∷ [])
    (none_joined (decimal a ++ 44 ∷ []) (decimal b) (none_joined (decimal a) (44 ∷ []) (decimal_plain a (omega (arith, h, k))) refl) (decimal_plain b k)) refl

bounded_plain : (bytes : List ℕ) (word : UnaryWord) → IsBounded bytes word → has_newline bytes ≡ false
bounded_plain bytes (unary.XTimes n) g = ap has_newline g.1 ∙ times_plain n g.0
bounded_plain bytes (unary.YTimes n) g = ap has_newline g.1 ∙ times_plain n g.0
bounded_plain bytes (unary.FIn a b) g = ap has_newline g.2 ∙ range_plain a b g.0 g.1
bounded_plain bytes (unary.GIn a b) g = ap has_newline g.2 ∙ range_plain a b g.0 g.1
bounded_plain bytes (unary.OIn a b) g = ap has_newline g.2 ∙ range_plain a b g.0 g.1
bounded_plain bytes (unary.HIn a b) g = ap has_newline g.2 ∙ range_plain a b g.0 g.1
bounded_plain bytes other g = absurd g

not_true : (t : Bool) → not t ≡ true → t ≡ true → ⊥
not_true true e f = cc
not_true false e f = cc

-- no newline stands in a token
no_newline : (bytes : List ℕ) (kind : TokenKind) → Spells bytes kind → (front back : List ℕ) → bytes ≡ front ++ 10 ∷ back → ⊥
no_newline bytes kind (inl s) front back e =
    not_true (has_newline bytes) (and_parts (not (has_newline bytes)) _ (sign_fits bytes kind s)).0 (ap has_newline e ∙ newline_found front back)
no_newline bytes kind (inr (inl w)) front back e = let h = word_ascii bytes w.0 front 10 back e (omega arith) in cc
no_newline bytes kind (inr (inr (word, is, g))) front back e =
    let h : false ≡ true = sym (bounded_plain bytes word g) ∙ ap has_newline e ∙ newline_found front back in cc

arrow_only : (s t : Bool) → (not s || t) ≡ true → s ≡ true → t ≡ true
arrow_only true t e f = e
arrow_only false t e f = cc

-- a token with a dash at its front is the arrow
dash_of_arrow : (bytes : List ℕ) (kind : TokenKind) → Spells bytes kind → (behind : List ℕ) → bytes ≡ 45 ∷ behind → behind ≡ 62 ∷ []
dash_of_arrow bytes kind (inl s) behind e =
    let parts = and_parts (not (has_newline bytes)) _ (sign_fits bytes kind s) in
    let same : bytes ≡ codes "->" = (bytes_eq-Decides bytes (codes "->")).0 (arrow_only (begins_with_dash bytes) _ parts.1 (ap begins_with_dash e)) in
    let h : 45 ∷ behind ≡ 45 ∷ 62 ∷ [] = sym e ∙ same in cc
dash_of_arrow bytes kind (inr (inl w)) behind e = let h = word_ascii bytes w.0 [] 45 behind e (omega arith) in absurd (cc)
dash_of_arrow bytes kind (inr (inr (word, is, g))) behind e =
    let f = bounded_front bytes word g in
    let h : f.0 ∷ 91 ∷ f.1 ≡ 45 ∷ behind = sym f.2 ∙ e in
    let same : f.0 ≡ 45 = cc in
    let t : is_word_byte 45 ≡ true = subst (λ b. is_word_byte b ≡ true) same f.3 in
    absurd (cc)

-- ---- three dashes at the start of a line

-- nothing stands before it, or a line
abbrev AtStart : List ℕ → Type 0
AtStart before = (before ≡ []) ⊎ ((text : List ℕ) × (before ≡ text ++ 10 ∷ []))

-- a dash is no white space
dash_not_white : (front back : List ℕ) → AreWhite (front ++ 45 ∷ back) → ⊥
dash_not_white front back h = let w = (and_parts (list_all is_white front) _ (sym (list_all-append is_white front (45 ∷ back)) ∙ h)).1 in cc

single : (c : List ℕ) (x : ℕ) (xs : List ℕ) → 10 ∷ [] ≡ c ++ x ∷ xs → AtStart (x ∷ xs)
single [] x xs e = inr ([], sym e)
single (y ∷ ys) x xs e = let n = ap length e in absurd (omega (arith, n, length-append ys (x ∷ xs)))

later_start : (front behind before : List ℕ) → before ≡ front ++ behind → AtStart before → AtStart behind
later_start front [] before e at = inl refl
later_start front (x ∷ xs) before e (inl none) = let n = ap length (sym none ∙ e) in absurd (omega (arith, n, length-append front (x ∷ xs)))
later_start front (x ∷ xs) before e (inr (text, f)) = elim (cut_within text (10 ∷ []) front x xs (sym f ∙ e)) [
  | inl c ↦ inr (x ∷ c.0, ap (λ z. x ∷ z) c.2)
  | inr c ↦ single c.0 x xs c.2
]

no_arrow : (after rest : List ℕ) → 45 ∷ 45 ∷ after ≡ 62 ∷ rest → ⊥
no_arrow after rest e = cc

-- they do not begin within a token
in_token : (bytes rest d c after : List ℕ) (kind : TokenKind) → Spells bytes kind → AtStart c → bytes ≡ c ++ 45 ∷ d → 45 ∷ 45 ∷ after ≡ d ++ rest → ⊥
in_token bytes rest d c after kind s (inl none) e f =
    no_arrow after rest (f ∙ ap (λ z. z ++ rest) (dash_of_arrow bytes kind s d (e ∙ ap (λ z. z ++ 45 ∷ d) none)))
in_token bytes rest d c after kind s (inr (text, line)) e f =
    no_newline bytes kind s text (45 ∷ d) (e ∙ ap (λ z. z ++ 45 ∷ d) line ∙ append_assoc text (10 ∷ []) (45 ∷ d))

no_dashes : (ts : List Token) (place : ℕ) (text before after : List ℕ) → AreTokens place text ts None → AtStart before
    → text ≡ before ++ 45 ∷ 45 ∷ 45 ∷ after → ⊥
no_dashes [] place text before after blank at e = dash_not_white before (45 ∷ 45 ∷ after) (subst AreWhite e blank)
no_dashes (t ∷ ts) place text before after (rest, next, more) at e =
    elim (cut_within next.white (next.bytes ++ rest) before 45 (45 ∷ 45 ∷ after) (sym next.whole ∙ e)) [
      | inl w ↦ dash_not_white before w.0 (subst AreWhite w.1 next.blank)
      | inr w ↦
          let at' = later_start next.white w.0 before w.1 at in
          elim (cut_within next.bytes rest w.0 45 (45 ∷ 45 ∷ after) w.2) [
            | inl u ↦ in_token next.bytes rest u.0 w.0 after t.kind next.longest.spells at' u.1 u.2
            | inr u ↦ no_dashes ts t.end rest u.0 after more (later_start next.bytes u.0 w.0 u.1 at') u.2
          ]
    ]

starts : (before text : List ℕ) → EndsLine before text → AtStart before
starts before text (inl (none, e)) = inl none
starts before text (inr e) = inr (text, e)

-- a separator line begins with three dashes
dashes_of : (bytes before line after : List ℕ) → IsLine bytes before line after → (more : List ℕ) × (bytes ≡ before ++ 45 ∷ 45 ∷ 45 ∷ more)
dashes_of bytes before line after h = go h.separator
  where
    go : IsSeparator line → (more : List ℕ) × (bytes ≡ before ++ 45 ∷ 45 ∷ 45 ∷ more)
    go (inl e) = (after, h.whole ∙ ap (λ l. (before ++ l) ++ after) e ∙ append_assoc before (codes "---") after)
    go (inr e) = (13 ∷ after, h.whole ∙ ap (λ l. (before ++ l) ++ after) e ∙ append_assoc before (codes "---" ++ 13 ∷ []) after)

-- ---- what stands behind such a text

two_more : (c more behind : List ℕ) → 45 ∷ 45 ∷ more ≡ c ++ 10 ∷ behind → (rest : List ℕ) × (c ≡ 45 ∷ 45 ∷ rest)
two_more [] more behind e = absurd (cc)
two_more (x ∷ []) more behind e = absurd (cc)
two_more (x ∷ y ∷ c) more behind e = (c, (cc))

no_earlier : (text behind before more : List ℕ) (ts : List Token) → AreTokens 0 text ts None → AtStart before
    → text ++ 10 ∷ behind ≡ before ++ 45 ∷ 45 ∷ 45 ∷ more → length text < length before
no_earlier text behind before more ts lexed at e = elim (cut_within text (10 ∷ behind) before 45 (45 ∷ 45 ∷ more) e) [
  | inl c ↦ let r = two_more c.0 more behind c.2 in absurd (no_dashes ts 0 text before r.0 lexed at (c.1 ∙ ap (λ z. before ++ 45 ∷ z) r.1))
  | inr c ↦ behind_newline c.0 c.1 c.2
]
  where
    behind_newline : (c : List ℕ) → before ≡ text ++ c → 10 ∷ behind ≡ c ++ 45 ∷ 45 ∷ 45 ∷ more → length text < length before
    behind_newline [] f g = absurd (cc)
    behind_newline (y ∷ ys) f g = let n = ap length f in omega (arith, n, length-append text (y ∷ ys))

-- the text, a separator line and a second part are cut into the text and that part
pub joined_cut : (text second : List ℕ) (ts : List Token) → AreTokens 0 text ts None → IsCut (text ++ codes "\n---\n" ++ second) text second
joined_cut text second ts lexed = record {
  before = text ++ newline;
  line = codes "---";
  after = newline ++ second;
  whole = append_assoc text (codes "\n---\n") second ∙ sym (append_assoc text newline (codes "---\n" ++ second))
      ∙ sym (append_assoc (text ++ newline) (codes "---") (newline ++ second));
  separator = inl refl;
  begins = inr refl;
  ends = inr refl;
  first = λ b l a h.
      let d = dashes_of (text ++ codes "\n---\n" ++ second) b l a h in
      let low = no_earlier text (codes "---\n" ++ second) b d.0 ts lexed (starts b h.text h.begins) (sym (append_assoc text (codes "\n---\n") second) ∙ d.1) in
      omega (arith, low, length-append text newline);
}
