-- Each text has a list of its tokens, up to the first fault: what stands at its front is decided, place by place.
use Rattle.std.proofs.Common.{◌≡◌, ℕ, zero, suc, ◌+◌, ◌<◌, ◌≤◌, ◌⊎◌, inl, inr, Bool, true, false, ◌&&◌, List, [], ◌∷◌, ◌++◌, length, take, drop, arith, refl}
use Rattle.std.proofs.Common.{sym, ap, ◌∙◌, subst}
use Rattle.std.specs.Prelude.{Option, Some, None}
use Rattle.std.specs.List.{list_all}
use Rattle.std.proofs.lemmas.List.{append-nil, take-append-drop, length-take-le, length-drop}
use Rattle.bstr.specs.Utf8.{decoded}
use Rattle.ltl_lexer.specs.declared.token.TokenKind.{TokenKind}
use Rattle.ltl_lexer.specs.declared.token.TokenKind.TheVariants as kinds
use Rattle.ltl_lexer.specs.declared.token.UnaryWord.{UnaryWord}
use Rattle.ltl_lexer.specs.declared.token.Token.{Token}
use Rattle.ltl_lexer.specs.Tokens.{is_white, AreWhite, IsWord, word_kind, IsLongest, BeginsNone, BeginsNoWhite, IsNext, AreTokens}
use Rattle.ltl_lexer.specs.Scanning.{passes, front_sign, front_bounded, FrontChar, FrontWord}
use Rattle.ltl_lexer.proofs.Fronts.{front_some, front_none, front_within, word_begins, word_longer, word_ends, none_ends, no_word}
use Rattle.ltl_lexer.proofs.Signs.{sign_token, bounded_token, word_token, none_token}
use Rattle.ltl_lexer.proofs.Cursors.{next_shorter}

-- a character of a word stands at the front, or none does
char_at : (first : Bool) (text : List ℕ) → (size : ℕ) × FrontChar first text size
char_at first text = go (decoded text).char refl
  where
    go : (found : Option ℕ) → (decoded text).char ≡ found → (size : ℕ) × FrontChar first text size
    go None e = (0, front_none first text (λ c h. absurd (cc)))
    go (Some c) e = tried (passes first c) refl
      where
        tried : (t : Bool) → passes first c ≡ t → (size : ℕ) × FrontChar first text size
        tried true p = ((decoded text).size, front_some first text c (decoded text).size (sym e) refl p)
        tried false p = (0, front_none first text (λ d h. let same : c ≡ d = cc in subst (λ z. passes first z ≡ false) same p))

-- the text has a longest word at its front, or none
abbrev HasWord : List ℕ → Type 0
HasWord text = (size : ℕ) × FrontWord text size

word_stops : (text : List ℕ) (len : ℕ) → len ≤ length text → IsWord (take len text) → FrontChar false (drop len text) 0 → HasWord text
word_stops text len le w g = (
  len,
  record {
    within = le;
    word = λ pos. (w, word_ends (take len text) (drop len text) w g);
    none = λ e. absurd (no_word (subst (λ n. IsWord (take n text)) e w));
  },
)

-- a word at the front goes on up to its end, character by character, each of which has a byte
word_on : (left : ℕ) (text : List ℕ) (len : ℕ) → len ≤ length text → length text ≤ len + left → IsWord (take len text)
    → (n : ℕ) → FrontChar false (drop len text) n → HasWord text
word_on left text len le enough w zero g = word_stops text len le w g
word_on zero text len le enough w (suc n) g =
    let k = front_within false (drop len text) (suc n) g in
    let l = length-drop len text in
    absurd (omega arith)
word_on (suc left) text len le enough w (suc n) g =
    let k = front_within false (drop len text) (suc n) g in
    let l = length-drop len text in
    let next = char_at false (drop (len + suc n) text) in
    word_on left text (len + suc n) (omega arith) (omega arith) (word_longer text len (suc n) le w g (omega arith)) next.0 next.1

-- the longest word at the front
word_at : (text : List ℕ) → HasWord text
word_at text = go (char_at true text).0 (char_at true text).1
  where
    go : (n : ℕ) → FrontChar true text n → HasWord text
    go zero g = (0, record { within = omega arith; word = λ pos. absurd (omega arith); none = λ e. none_ends text g })
    go (suc n) g =
        let next = char_at false (drop (suc n) text) in
        word_on (length text) text (suc n) (front_within true text (suc n) g) (omega arith) (word_begins text (suc n) g (omega arith)) next.0 next.1

-- the longest token at the front, or none begins the text
abbrev IsTokenAt : List ℕ → Type 0
IsTokenAt text = (kind : TokenKind) × (n : ℕ) × (n ≤ length text) × IsLongest kind (take n text) (drop n text)

token_at : (text : List ℕ) → IsTokenAt text ⊎ BeginsNone text
token_at text = by_sign (front_sign text) refl
  where
    by_word : front_sign text ≡ None → front_bounded text ≡ None → (n : ℕ) → FrontWord text n → IsTokenAt text ⊎ BeginsNone text
    by_word s b zero f = inr (none_token text s b f)
    by_word s b (suc n) f = inl (word_kind (take (suc n) text), suc n, f.within, word_token text (suc n) b f (omega arith))

    by_bounded : front_sign text ≡ None → (r : Option (UnaryWord × ℕ)) → front_bounded text ≡ r → IsTokenAt text ⊎ BeginsNone text
    by_bounded s None e = by_word s e (word_at text).0 (word_at text).1
    by_bounded s (Some r) e = let t = bounded_token text r.0 r.1 e in inl (kinds.Unary r.0, r.1, t.0, t.1)

    by_sign : (r : Option (TokenKind × ℕ)) → front_sign text ≡ r → IsTokenAt text ⊎ BeginsNone text
    by_sign None e = by_bounded e (front_bounded text) refl
    by_sign (Some r) e = let t = sign_token text r.0 r.1 e in inl (r.0, r.1, t.0, t.1)

-- the white space at the front, and what stands behind it
record White (text : List ℕ) : Type 0 where
  white : List ℕ
  rest : List ℕ
  whole : text ≡ white ++ rest
  blank : AreWhite white
  stops : (rest ≡ []) ⊎ BeginsNoWhite rest

white_more : (b : ℕ) (bs : List ℕ) → White bs → (t : Bool) → is_white b ≡ t → White (b ∷ bs)
white_more b bs w false e = record { white = []; rest = b ∷ bs; whole = refl; blank = refl; stops = inr e }
white_more b bs w true e = record {
  white = b ∷ w.white;
  rest = w.rest;
  whole = ap (λ z. b ∷ z) w.whole;
  blank = ap (λ z. z && list_all is_white w.white) e ∙ w.blank;
  stops = w.stops;
}

white_at : (text : List ℕ) → White text
white_at [] = record { white = []; rest = []; whole = refl; blank = refl; stops = inl refl }
white_at (b ∷ bs) = white_more b bs (white_at bs) (is_white b) refl

-- the first token of a text behind its white space
first_token : (place : ℕ) (text : List ℕ) (w : White text) (kind : TokenKind) (n : ℕ) → n ≤ length w.rest
    → IsLongest kind (take n w.rest) (drop n w.rest) → (t : Token) × IsNext place text t (drop n w.rest)
first_token place text w kind n le g = (
  record { kind = kind; start = place + length w.white; end = place + length w.white + n },
  record {
    white = w.white;
    bytes = take n w.rest;
    whole = w.whole ∙ ap (λ z. w.white ++ z) (sym (take-append-drop n w.rest));
    blank = w.blank;
    start = refl;
    end = ap (λ z. place + length w.white + z) (sym (length-take-le n w.rest le));
    longest = g;
  },
)

abbrev HasTokens : ℕ → List ℕ → Type 0
HasTokens place text = (ts : List Token) × (f : Option ℕ) × AreTokens place text ts f

-- with the tokens of each shorter text given
tokens_by : (place : ℕ) (text : List ℕ) → White text → ((next : ℕ) (rest : List ℕ) → length rest < length text → HasTokens next rest)
    → HasTokens place text
tokens_by place text w shorter = elim w.stops [
  | inl e ↦ ([], None, subst AreWhite (sym (w.whole ∙ ap (λ z. w.white ++ z) e ∙ append-nil w.white)) w.blank)
  | inr f ↦ elim (token_at w.rest) [
    | inl k ↦
        let t = first_token place text w k.0 k.1 k.2 k.3 in
        let r = shorter t.0.end (drop k.1 w.rest) (next_shorter place text t.0 (drop k.1 w.rest) t.1) in
        (t.0 ∷ r.0, r.1, (drop k.1 w.rest, t.1, r.2))
    | inr none ↦ (
      [],
      Some (place + length w.white),
      record {
        white = w.white;
        rest = w.rest;
        whole = w.whole;
        blank = w.blank;
        faulty = f;
        none = none;
        at = refl;
      },
    )
  ]
]

tokens_from : (left place : ℕ) (text : List ℕ) → length text < left → HasTokens place text
tokens_from zero place text lt = absurd (omega arith)
tokens_from (suc left) place text lt = tokens_by place text (white_at text) (λ next rest less. tokens_from left next rest (omega arith))

-- each text has a list of its tokens, and of its ends one
pub some_list : (text : List ℕ) → (ts : List Token) × (f : Option ℕ) × AreTokens 0 text ts f
some_list text = tokens_from (suc (length text)) 0 text (omega arith)
