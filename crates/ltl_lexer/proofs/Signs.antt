-- The longest sign, and the longest token, at the front of a text.
use Rattle.std.proofs.Common.{◌≡◌, ℕ, zero, suc, ◌<◌, ◌≤◌, ◌⊎◌, inl, inr, Bool, true, false, ◌&&◌, ◌||◌, ◌==◌, List, [], ◌∷◌, ◌++◌, length, take, drop, arith}
use Rattle.std.proofs.Common.{refl, sym, ap, ◌∙◌, subst, append_assoc, length-append}
use Rattle.std.specs.Prelude.{Option, Some, None, if◌then◌else◌, codes, bytes_eq}
use Rattle.std.proofs.lemmas.Bool.{and_parts, or_cases}
use Rattle.std.proofs.lemmas.List.{take-append-drop, length-take-le, take_at, drop_at}
use Rattle.std.proofs.lemmas.Slice.Eq.{bytes_eq-Decides}
use borrow.Author.Tests.{eqb-true}
use Rattle.ltl_lexer.specs.declared.token.TokenKind.{TokenKind}
use Rattle.ltl_lexer.specs.declared.token.TokenKind.TheVariants as kinds
use Rattle.ltl_lexer.specs.declared.token.UnaryWord.{UnaryWord}
use Rattle.ltl_lexer.specs.Tokens.{sign, word_kind, Spells, IsLongest, BeginsNone}
use Rattle.ltl_lexer.specs.Scanning.{begins, begins_second, front_sign, FrontWord, front_bounded}
use Rattle.ltl_lexer.proofs.Bounded.{bounded_found, bounded_read, found}
use Rattle.ltl_lexer.proofs.Words.{is_word_byte, word_front, sign_none, like_front, bounded_longest}
use Rattle.ltl_lexer.proofs.Fronts.{no_word}

pick : (Q A : Type 0) (t : Bool) (x r z : A) → (t ≡ true → x ≡ z → Q) → (r ≡ z → Q) → (if t then x else r) ≡ z → Q
pick Q A true x r z f g e = f refl e
pick Q A false x r z f g e = g e

kind_is : (k m : TokenKind) → Some k ≡ Some m → k ≡ m
kind_is k m e = cc

one_of : (P : List ℕ → TokenKind → Type 0) (a b : List ℕ) (k : TokenKind) → P a k → P b k → (bytes : List ℕ) (kind : TokenKind)
    → (bytes_eq bytes a || bytes_eq bytes b) ≡ true → Some k ≡ Some kind → P bytes kind
one_of P a b k p q bytes kind t e = subst (P bytes) (kind_is k kind e) (elim (or_cases (bytes_eq bytes a) (bytes_eq bytes b) t) [
  | inl x ↦ subst (λ z. P z k) (sym ((bytes_eq-Decides bytes a).0 x)) p
  | inr x ↦ subst (λ z. P z k) (sym ((bytes_eq-Decides bytes b).0 x)) q
])

this_one : (P : List ℕ → TokenKind → Type 0) (a : List ℕ) (k : TokenKind) → P a k → (bytes : List ℕ) (kind : TokenKind)
    → bytes_eq bytes a ≡ true → Some k ≡ Some kind → P bytes kind
this_one P a k p bytes kind t e = subst (P bytes) (kind_is k kind e) (subst (λ z. P z k) (sym ((bytes_eq-Decides bytes a).0 t)) p)

-- what holds of each sign of the table holds of each sign
sign_cases : (P : List ℕ → TokenKind → Type 0)
    → P (codes "!") kinds.Not → P (codes "~") kinds.Not
    → P (codes "&") kinds.And → P (codes "&&") kinds.And
    → P (codes "|") kinds.Or → P (codes "||") kinds.Or
    → P (codes "->") kinds.Implies → P (codes "=>") kinds.Implies
    → P (codes "<->") kinds.Iff → P (codes "<=>") kinds.Iff
    → P (codes "(") kinds.OpenParen → P (codes ")") kinds.CloseParen
    → (bytes : List ℕ) (kind : TokenKind) → sign bytes ≡ Some kind → P bytes kind
sign_cases P a b c d e f g h i j k l bytes kind =
    pick (P bytes kind) (Option TokenKind) (bytes_eq bytes (codes "!") || bytes_eq bytes (codes "~")) (Some kinds.Not) _ (Some kind)
    (one_of P (codes "!") (codes "~") kinds.Not a b bytes kind)
    (pick (P bytes kind) (Option TokenKind) (bytes_eq bytes (codes "&") || bytes_eq bytes (codes "&&")) (Some kinds.And) _ (Some kind)
    (one_of P (codes "&") (codes "&&") kinds.And c d bytes kind)
    (pick (P bytes kind) (Option TokenKind) (bytes_eq bytes (codes "|") || bytes_eq bytes (codes "||")) (Some kinds.Or) _ (Some kind)
    (one_of P (codes "|") (codes "||") kinds.Or e f bytes kind)
    (pick (P bytes kind) (Option TokenKind) (bytes_eq bytes (codes "->") || bytes_eq bytes (codes "=>")) (Some kinds.Implies) _ (Some kind)
    (one_of P (codes "->") (codes "=>") kinds.Implies g h bytes kind)
    (pick (P bytes kind) (Option TokenKind) (bytes_eq bytes (codes "<->") || bytes_eq bytes (codes "<=>")) (Some kinds.Iff) _ (Some kind)
    (one_of P (codes "<->") (codes "<=>") kinds.Iff i j bytes kind)
    (pick (P bytes kind) (Option TokenKind) (bytes_eq bytes (codes "(")) (Some kinds.OpenParen) _ (Some kind)
    (this_one P (codes "(") kinds.OpenParen k bytes kind)
    (pick (P bytes kind) (Option TokenKind) (bytes_eq bytes (codes ")")) (Some kinds.CloseParen) _ (Some kind)
    (this_one P (codes ")") kinds.CloseParen l bytes kind)
    (λ v. absurd (cc))))))))

-- where no sign is found none stands at the front
abbrev IsFound : List ℕ → TokenKind → Type 0
IsFound bytes kind = (rest : List ℕ) → front_sign (bytes ++ rest) ≡ None → ⊥

found_sign : (bytes : List ℕ) (kind : TokenKind) → sign bytes ≡ Some kind → IsFound bytes kind
found_sign = sign_cases IsFound (λ r e. cc) (λ r e. cc) (λ r e. cc) (λ r e. cc) (λ r e. cc) (λ r e. cc) (λ r e. cc) (λ r e. cc) (λ r e. cc) (λ r e. cc)
    (λ r e. cc) (λ r e. cc)

abbrev some_pair : TokenKind → ℕ → Option (TokenKind × ℕ)
some_pair a m = Some (a, m)

pair_is : (p q : TokenKind × ℕ) → Some p ≡ Some q → p ≡ q
pair_is p q e = cc

length_is : (a : TokenKind) (m : ℕ) (k : TokenKind) (n : ℕ) → some_pair a m ≡ Some (k, n) → n ≡ m
length_is a m k n e = sym (ap (λ (z : TokenKind × ℕ). z.1) (pair_is (a, m) (k, n) e))

one_or_two : (b : Bool) → 1 ≤ (if b then 2 else 1)
one_or_two true = omega arith
one_or_two false = omega arith

-- no sign at the front is longer than the one that is found
abbrev IsCovered : List ℕ → TokenKind → Type 0
IsCovered bytes kind = (rest : List ℕ) (k : TokenKind) (n : ℕ) → front_sign (bytes ++ rest) ≡ Some (k, n) → length bytes ≤ n

covered : (bytes : List ℕ) (kind : TokenKind) → sign bytes ≡ Some kind → IsCovered bytes kind
covered = sign_cases IsCovered
    (λ r k n e. let h = length_is _ _ _ _ e in omega arith) (λ r k n e. let h = length_is _ _ _ _ e in omega arith)
    (λ r k n e. let h = length_is _ _ _ _ e in let l = one_or_two (begins r 38) in omega arith) (λ r k n e. let h = length_is _ _ _ _ e in omega arith)
    (λ r k n e. let h = length_is _ _ _ _ e in let l = one_or_two (begins r 124) in omega arith) (λ r k n e. let h = length_is _ _ _ _ e in omega arith)
    (λ r k n e. let h = length_is _ _ _ _ e in omega arith) (λ r k n e. let h = length_is _ _ _ _ e in omega arith)
    (λ r k n e. let h = length_is _ _ _ _ e in omega arith) (λ r k n e. let h = length_is _ _ _ _ e in omega arith)
    (λ r k n e. let h = length_is _ _ _ _ e in omega arith) (λ r k n e. let h = length_is _ _ _ _ e in omega arith)

-- what is found is a sign
abbrev IsGood : List ℕ → TokenKind → ℕ → Type 0
IsGood text k n = (n ≤ length text) × (0 < n) × (sign (take n text) ≡ Some k)

good_at : (text : List ℕ) (a : TokenKind) (m : ℕ) (k : TokenKind) (n : ℕ) → IsGood text a m → some_pair a m ≡ Some (k, n) → IsGood text k n
good_at text a m k n g e = subst (λ (p : TokenKind × ℕ). IsGood text p.0 p.1) (pair_is (a, m) (k, n) e) g

twice : (b : ℕ) (k : TokenKind) → sign (b ∷ []) ≡ Some k → sign (b ∷ b ∷ []) ≡ Some k → (bs : List ℕ) → IsGood (b ∷ bs) k (if begins bs b then 2 else 1)
twice b k one two [] = (omega arith, omega arith, one)
twice b k one two (x ∷ xs) = go (x == b) refl
  where
    go : (t : Bool) → (x == b) ≡ t → IsGood (b ∷ x ∷ xs) k (if t then 2 else 1)
    go true e = (omega arith, omega arith, subst (λ z. sign (b ∷ z ∷ []) ≡ Some k) (sym (eqb-true x b e)) two)
    go false e = (omega arith, omega arith, one)

arrow : (b : ℕ) → sign (b ∷ 62 ∷ []) ≡ Some kinds.Implies → (bs : List ℕ) → begins bs 62 ≡ true → IsGood (b ∷ bs) kinds.Implies 2
arrow b s [] t = absurd (cc)
arrow b s (x ∷ xs) t = (omega arith, omega arith, subst (λ z. sign (b ∷ z ∷ []) ≡ Some kinds.Implies) (sym (eqb-true x 62 t)) s)

both_ways : (bs : List ℕ) → ((begins bs 45 || begins bs 61) && begins_second bs 62) ≡ true → IsGood (60 ∷ bs) kinds.Iff 3
both_ways [] t = absurd (cc)
both_ways (x ∷ []) t = let w = and_parts ((x == 45) || (x == 61)) false t in let h : false ≡ true = w.1 in absurd (cc)
both_ways (x ∷ y ∷ ys) t =
    let w = and_parts ((x == 45) || (x == 61)) (y == 62) t in (
      omega arith,
      omega arith,
      subst (λ z. sign (60 ∷ x ∷ z ∷ []) ≡ Some kinds.Iff) (sym (eqb-true y 62 w.1)) (elim (or_cases (x == 45) (x == 61) w.0) [
        | inl e ↦ subst (λ z. sign (60 ∷ z ∷ 62 ∷ []) ≡ Some kinds.Iff) (sym (eqb-true x 45 e)) refl
        | inr e ↦ subst (λ z. sign (60 ∷ z ∷ 62 ∷ []) ≡ Some kinds.Iff) (sym (eqb-true x 61 e)) refl
      ]),
    )

pub sign_found : (text : List ℕ) (k : TokenKind) (n : ℕ) → front_sign text ≡ Some (k, n) → IsGood text k n
sign_found [] k n = λ e. absurd (cc)
sign_found (b ∷ bs) k n =
    pick (IsGood (b ∷ bs) k n) (Option (TokenKind × ℕ)) ((b == 33) || (b == 126)) (Some (kinds.Not, 1)) _ (Some (k, n))
    (λ t. good_at (b ∷ bs) kinds.Not 1 k n (elim (or_cases (b == 33) (b == 126) t) [
      | inl e ↦ (omega arith, omega arith, ap (λ z. sign (z ∷ [])) (eqb-true b 33 e))
      | inr e ↦ (omega arith, omega arith, ap (λ z. sign (z ∷ [])) (eqb-true b 126 e))
    ]))
    (pick (IsGood (b ∷ bs) k n) (Option (TokenKind × ℕ)) (b == 38) (Some (
      kinds.And,
      (if begins bs 38 then 2 else 1),
    )) _ (Some (k, n)) (λ t. good_at (b ∷ bs) kinds.And (if begins bs 38 then 2 else 1) k n
    (subst (λ z. IsGood (z ∷ bs) kinds.And (if begins bs 38 then 2 else 1)) (sym (eqb-true b 38 t)) (twice 38 kinds.And refl refl bs)))
    (pick (IsGood (b ∷ bs) k n) (Option (TokenKind × ℕ)) (b == 124) (Some (
      kinds.Or,
      (if begins bs 124 then 2 else 1),
    )) _ (Some (k, n)) (λ t. good_at (b ∷ bs) kinds.Or (if begins bs 124 then 2 else 1) k n
    (subst (λ z. IsGood (z ∷ bs) kinds.Or (if begins bs 124 then 2 else 1)) (sym (eqb-true b 124 t)) (twice 124 kinds.Or refl refl bs)))
    (pick (IsGood (b ∷ bs) k n) (Option (TokenKind × ℕ)) (b == 40) (Some (
      kinds.OpenParen,
      1,
    )) _ (Some (k, n)) (λ t. good_at (b ∷ bs) kinds.OpenParen 1 k n (omega arith, omega arith, ap (λ z. sign (z ∷ [])) (eqb-true b 40 t)))
    (pick (IsGood (b ∷ bs) k n) (Option (TokenKind × ℕ)) (b == 41) (Some (
      kinds.CloseParen,
      1,
    )) _ (Some (k, n)) (λ t. good_at (b ∷ bs) kinds.CloseParen 1 k n (omega arith, omega arith, ap (λ z. sign (z ∷ [])) (eqb-true b 41 t)))
    (pick (IsGood (b ∷ bs) k n) (Option (TokenKind × ℕ)) ((b == 45) || (b == 61)) (if begins bs 62 then Some (
      kinds.Implies,
      2,
    ) else None) _ (Some (k, n)) (λ t. pick (IsGood (b ∷ bs) k n) (Option (TokenKind × ℕ)) (begins bs 62) (Some (
      kinds.Implies,
      2,
    )) None (Some (k, n)) (λ u. good_at (b ∷ bs) kinds.Implies 2 k n (elim (or_cases (b == 45) (b == 61) t) [
      | inl e ↦ subst (λ z. IsGood (z ∷ bs) kinds.Implies 2) (sym (eqb-true b 45 e)) (arrow 45 refl bs u)
      | inr e ↦ subst (λ z. IsGood (z ∷ bs) kinds.Implies 2) (sym (eqb-true b 61 e)) (arrow 61 refl bs u)
    ])) (λ e. absurd (cc)))
    (pick (IsGood (b ∷ bs) k n) (Option (TokenKind × ℕ)) ((b == 60) && ((begins bs 45 || begins bs 61) && begins_second bs 62)) (Some (
      kinds.Iff,
      3,
    )) None (Some (k, n)) (λ t.
    let w = and_parts (b == 60) ((begins bs 45 || begins bs 61) && begins_second bs 62) t in
    good_at (b ∷ bs) kinds.Iff 3 k n (subst (λ z. IsGood (z ∷ bs) kinds.Iff 3) (sym (eqb-true b 60 w.0)) (both_ways bs w.1)))
    (λ e. absurd (cc))))))))

head_of : (n : ℕ) (text : List ℕ) → 0 < n → n ≤ length text → (b : ℕ) × (bs : List ℕ) × (take n text ≡ b ∷ bs)
head_of zero text p l = absurd (omega arith)
head_of (suc n) [] p l = absurd (omega arith)
head_of (suc n) (b ∷ bs) p l = (b, take n bs, refl)

pub sign_token : (text : List ℕ) (k : TokenKind) (n : ℕ) → front_sign text ≡ Some (k, n) → (n ≤ length text) × IsLongest k (take n text) (drop n text)
sign_token text k n e =
    let g = sign_found text k n e in
    (g.0, record { spells = inl g.2; longest = go })
  where
    go : (more after : List ℕ) (other : TokenKind) → drop n text ≡ more ++ after → 0 < length more → Spells (take n text ++ more) other → ⊥
    go more after other d pos (inl s) =
        let g = sign_found text k n e in
        let whole : (take n text ++ more) ++ after ≡ text =
        append_assoc (take n text) more after ∙ ap (λ z. take n text ++ z) (sym d) ∙ take-append-drop n text in
        let c = covered (take n text ++ more) other s after k n (ap front_sign whole ∙ e) in
        let l = length-append (take n text) more in
        let m = length-take-le n text g.0 in
        omega arith
    go more after other d pos (inr w) =
        let g = sign_found text k n e in
        let h = head_of n text g.1 g.0 in
        let f = like_front (take n text ++ more) other w in
        let same : h.0 ∷ (h.1 ++ more) ≡ f.0 ∷ f.1 = sym (ap (λ z. z ++ more) h.2) ∙ f.2 in
        let b : f.0 ≡ h.0 = cc in
        let no : sign (h.0 ∷ h.1) ≡ None = sign_none h.0 h.1 (subst (λ z. (is_word_byte z ≡ true) ⊎ (128 ≤ z)) b f.3) in
        let yes : sign (h.0 ∷ h.1) ≡ Some k = ap sign (sym h.2) ∙ g.2 in
        cc

pub bounded_token : (text : List ℕ) (word : UnaryWord) (n : ℕ) → front_bounded text ≡ found word n
    → (n ≤ length text) × IsLongest (kinds.Unary word) (take n text) (drop n text)
bounded_token text word n e =
    let f = bounded_found text word n e in
    let t : take n text ≡ f.bytes = ap (take n) f.whole ∙ take_at f.bytes f.rest n (sym f.long) in
    let d : drop n text ≡ f.rest = ap (drop n) f.whole ∙ drop_at f.bytes f.rest n (sym f.long) in
    let l = ap length f.whole ∙ length-append f.bytes f.rest in
    let m = f.long in (
      omega arith,
      subst (λ z. IsLongest (kinds.Unary word) z (drop n text)) (sym t)
          (subst (λ z. IsLongest (kinds.Unary word) f.bytes z) (sym d) (bounded_longest word f.bytes f.rest f.bounded)),
    )

pub word_token : (text : List ℕ) (n : ℕ) → front_bounded text ≡ None → FrontWord text n
    → 0 < n → IsLongest (word_kind (take n text)) (take n text) (drop n text)
word_token text n none f pos = record { spells = inr (inl ((f.word pos).0, refl)); longest = go }
  where
    go : (more after : List ℕ) (other : TokenKind) → drop n text ≡ more ++ after → 0 < length more → Spells (take n text ++ more) other → ⊥
    go more after other d p (inl s) =
        let w = word_front (take n text) (f.word pos).0 in
        let no = sign_none w.0 (w.1 ++ more) w.3 in
        let yes : sign (w.0 ∷ (w.1 ++ more)) ≡ Some other = ap sign (sym (ap (λ z. z ++ more) w.2)) ∙ s in
        cc
    go more after other d p (inr (inl w)) = (f.word pos).1 more after d p w.0
    go more after other d p (inr (inr w)) =
        let whole : (take n text ++ more) ++ after ≡ text =
        append_assoc (take n text) more after ∙ ap (λ z. take n text ++ z) (sym d) ∙ take-append-drop n text in
        let yes = sym (bounded_read w.0 (take n text ++ more) after w.2) ∙ ap front_bounded whole ∙ none in
        cc

pub none_token : (text : List ℕ) → front_sign text ≡ None → front_bounded text ≡ None → FrontWord text 0 → BeginsNone text
none_token text e g f bytes rest kind d (inl s) = found_sign bytes kind s rest (sym (ap front_sign d) ∙ e)
none_token text e g f [] rest kind d (inr (inl w)) = no_word w.0
none_token text e g f (b ∷ bs) rest kind d (inr (inl w)) = f.none refl (b ∷ bs) rest d (omega arith) w.0
none_token text e g f bytes rest kind d (inr (inr w)) =
    let yes = sym (bounded_read w.0 bytes rest w.2) ∙ ap front_bounded (sym d) ∙ g in
    cc
