-- A text has one list of tokens.
use Rattle.std.proofs.Common.{◌≡◌, ℕ, ◌+◌, ◌<◌, ◌⊎◌, inl, inr, Bool, true, false, ◌||◌, ◌==◌, List, [], ◌∷◌, ◌++◌, length, arith, refl, sym, ap, ap₂, ◌∙◌}
use Rattle.std.proofs.Common.{subst}
use Rattle.std.specs.Prelude.{Option, Some, None}
use Rattle.std.specs.List.{list_all}
use Rattle.std.proofs.lemmas.Bool.{and_parts, or_cases}
use Rattle.std.proofs.lemmas.List.{append-nil}
use borrow.Author.Tests.{eqb-true}
use Rattle.ltl_lexer.specs.declared.token.TokenKind.{TokenKind}
use Rattle.ltl_lexer.specs.declared.token.TokenKind.TheVariants as kinds
use Rattle.ltl_lexer.specs.declared.token.Token.{Token}
use Rattle.ltl_lexer.specs.Tokens.{is_white, AreWhite, sign, Spells, IsLongest, BeginsNoWhite, IsNext, IsLexFault, Ends, AreTokens}
use Rattle.ltl_lexer.proofs.Bounded.{bounded_read, found_same}
use Rattle.ltl_lexer.proofs.Words.{is_word_byte, bounded_no_word, like_front, like_no_sign}

-- a spelling has one kind
pub one_kind : (bytes : List ℕ) (k m : TokenKind) → Spells bytes k → Spells bytes m → k ≡ m
one_kind bytes k m (inl p) (inl q) = cc
one_kind bytes k m (inl p) (inr q) = let e = like_no_sign bytes m q in absurd (cc)
one_kind bytes k m (inr p) (inl q) = let e = like_no_sign bytes k p in absurd (cc)
one_kind bytes k m (inr (inl p)) (inr (inl q)) = sym p.1 ∙ q.1
one_kind bytes k m (inr (inl p)) (inr (inr q)) = absurd (bounded_no_word bytes q.0 q.2 p.0)
one_kind bytes k m (inr (inr p)) (inr (inl q)) = absurd (bounded_no_word bytes p.0 p.2 q.0)
one_kind bytes k m (inr (inr p)) (inr (inr q)) =
    p.1 ∙ ap kinds.Unary (found_same p.0 q.0 (length bytes) (length bytes) (sym (bounded_read p.0 bytes [] p.2) ∙ bounded_read q.0 bytes [] q.2)).0 ∙ sym q.1

-- of two ways to cut a list one goes further
prefix : {A : Type 0} (a b x y : List A) → a ++ x ≡ b ++ y → ((c : List A) × (a ≡ b ++ c) × (y ≡ c ++ x)) ⊎ ((c : List A) × (b ≡ a ++ c) × (x ≡ c ++ y))
prefix [] b x y e = inr (b, refl, e)
prefix (p ∷ a) [] x y e = inl (p ∷ a, refl, sym e)
prefix (p ∷ a) (q ∷ b) x y e =
    let h : p ≡ q = cc in
    elim (prefix a b x y (let u : a ++ x ≡ b ++ y = cc in u)) [
      | inl c ↦ inl (c.0, ap₂ (λ s t. s ∷ t) h c.1, c.2)
      | inr c ↦ inr (c.0, ap₂ (λ s t. s ∷ t) (sym h) c.1, c.2)
    ]

longer_none : (k m : TokenKind) (a b x y : List ℕ) → IsLongest k a x → Spells b m → (c : List ℕ) → b ≡ a ++ c → x ≡ c ++ y → c ≡ []
longer_none k m a b x y g s [] e h = refl
longer_none k m a b x y g s (z ∷ c) e h = absurd (g.longest (z ∷ c) y m h (omega arith) (subst (λ t. Spells t m) e s))

pub same_longest : (k m : TokenKind) (a b x y : List ℕ) → IsLongest k a x → IsLongest m b y → a ++ x ≡ b ++ y → (k ≡ m) × (a ≡ b) × (x ≡ y)
same_longest k m a b x y g h e = elim (prefix a b x y e) [
  | inl c ↦
      let n = longer_none m k b a y x h g.spells c.0 c.1 c.2 in
      let i : a ≡ b = c.1 ∙ ap (λ z. b ++ z) n ∙ append-nil b in
      (one_kind b k m (subst (λ z. Spells z k) i g.spells) h.spells, i, sym (c.2 ∙ ap (λ z. z ++ x) n))
  | inr c ↦
      let n = longer_none k m a b x y g h.spells c.0 c.1 c.2 in
      let i : b ≡ a = c.1 ∙ ap (λ z. a ++ z) n ∙ append-nil a in
      (one_kind a k m g.spells (subst (λ z. Spells z m) i h.spells), sym i, c.2 ∙ ap (λ z. z ++ y) n)
]

same_white : (a b x y : List ℕ) → AreWhite a → AreWhite b → BeginsNoWhite x → BeginsNoWhite y → a ++ x ≡ b ++ y → (a ≡ b) × (x ≡ y)
same_white [] [] x y p q s t e = (refl, e)
same_white [] (v ∷ b) [] y p q s t e = absurd s
same_white [] (v ∷ b) (u ∷ x) y p q s t e =
    let w = and_parts (is_white v) (list_all is_white b) q in
    let h : is_white v ≡ true = w.0 in
    let i : u ≡ v = cc in
    let j = ap is_white i in
    absurd (cc)
same_white (u ∷ a) [] x [] p q s t e = absurd t
same_white (u ∷ a) [] x (v ∷ y) p q s t e =
    let w = and_parts (is_white u) (list_all is_white a) p in
    let h : is_white u ≡ true = w.0 in
    let i : u ≡ v = cc in
    let j = ap is_white i in
    absurd (cc)
same_white (u ∷ a) (v ∷ b) x y p q s t e =
    let i : u ≡ v = cc in
    let w = and_parts (is_white u) (list_all is_white a) p in
    let z = and_parts (is_white v) (list_all is_white b) q in
    let r = same_white a b x y w.1 z.1 s t (let d : a ++ x ≡ b ++ y = cc in d) in
    (ap₂ (λ p q. p ∷ q) i r.0, r.1)

pub white_cases : (P : ℕ → Type 0) → P 32 → P 9 → P 10 → P 13 → (b : ℕ) → is_white b ≡ true → P b
white_cases P p q r s b h = elim (or_cases ((b == 32) || (b == 9) || (b == 10)) (b == 13) h) [
  | inl x ↦ elim (or_cases ((b == 32) || (b == 9)) (b == 10) x) [
    | inl y ↦ elim (or_cases (b == 32) (b == 9) y) [
      | inl z ↦ subst P (sym (eqb-true b 32 z)) p
      | inr z ↦ subst P (sym (eqb-true b 9 z)) q
    ]
    | inr y ↦ subst P (sym (eqb-true b 10 y)) r
  ]
  | inr x ↦ subst P (sym (eqb-true b 13 x)) s
]

pub no_white_sign : (b : ℕ) (bs : List ℕ) → is_white b ≡ true → sign (b ∷ bs) ≡ None
no_white_sign b bs h = white_cases (λ z. sign (z ∷ bs) ≡ None) refl refl refl refl b h

pub no_white_word : (b : ℕ) → is_white b ≡ true → (b < 128) × (is_word_byte b ≡ false)
no_white_word b h = white_cases (λ z. (z < 128) × (is_word_byte z ≡ false)) (omega arith, refl) (omega arith, refl) (omega arith, refl) (omega arith, refl) b h

-- a spelling begins with no white space
pub solid : (bytes rest : List ℕ) (kind : TokenKind) → Spells bytes kind → BeginsNoWhite (bytes ++ rest)
solid [] rest kind (inl s) = absurd (cc)
solid [] rest kind (inr w) = let f = (like_front [] kind w).2 in absurd (cc)
solid (b ∷ bs) rest kind s = go (is_white b) refl
  where
    go : (t : Bool) → is_white b ≡ t → is_white b ≡ false
    go false e = e
    go true e = elim s [
      | inl q ↦ let n = no_white_sign b bs e in absurd (cc)
      | inr w ↦
          let n = no_white_word b e in
          let f = like_front (b ∷ bs) kind w in
          let h = f.2 in
          let same : f.0 ≡ b = cc in
          elim f.3 [
            | inl y ↦ let u = ap is_word_byte same in let o = n.1 in absurd (cc)
            | inr y ↦ let o = n.0 in absurd (omega arith)
          ]
    ]

not_white : (a x : List ℕ) → BeginsNoWhite x → AreWhite (a ++ x) → ⊥
not_white [] [] s w = s
not_white [] (b ∷ x) s w = let h = (and_parts (is_white b) (list_all is_white x) w).0 in absurd (cc)
not_white (b ∷ a) x s w = not_white a x s (and_parts (is_white b) (list_all is_white (a ++ x)) w).1

pub one_next : (place : ℕ) (text : List ℕ) (t u : Token) (r q : List ℕ) → IsNext place text t r → IsNext place text u q → (t ≡ u) × (r ≡ q)
one_next place text t u r q g h =
    let e : g.white ++ (g.bytes ++ r) ≡ h.white ++ (h.bytes ++ q) = sym g.whole ∙ h.whole in
    let w = same_white g.white h.white (g.bytes ++ r) (h.bytes ++ q) g.blank h.blank (solid g.bytes r t.kind g.longest.spells)
    (solid h.bytes q u.kind h.longest.spells) e in
    let l = same_longest t.kind u.kind g.bytes h.bytes r q g.longest h.longest w.1 in
    let s : t.start ≡ u.start = g.start ∙ ap (λ z. place + length z) w.0 ∙ sym h.start in
    let f : t.end ≡ u.end = g.end ∙ ap₂ (λ x y. x + length y) s l.1 ∙ sym h.end in
    (λ i. record { kind = l.0 i; start = s i; end = f i }, l.2)

pub next_not_white : (place : ℕ) (text : List ℕ) (t : Token) (r : List ℕ) → IsNext place text t r → AreWhite text → ⊥
next_not_white place text t r h w = not_white h.white (h.bytes ++ r) (solid h.bytes r t.kind h.longest.spells) (subst AreWhite h.whole w)

pub fault_not_white : (place : ℕ) (text : List ℕ) (byte : ℕ) → IsLexFault place text byte → AreWhite text → ⊥
fault_not_white place text byte d w = not_white d.white d.rest d.faulty (subst AreWhite d.whole w)

ends_next : (place : ℕ) (text : List ℕ) (fault : Option ℕ) (t : Token) (r : List ℕ) → Ends place text fault → IsNext place text t r → ⊥
ends_next place text None t r d h = next_not_white place text t r h d
ends_next place text (Some b) t r d h =
    let w = same_white d.white h.white d.rest (h.bytes ++ r) d.blank h.blank d.faulty (solid h.bytes r t.kind h.longest.spells) (sym d.whole ∙ h.whole) in
    d.none h.bytes r t.kind w.1 h.longest.spells

one_end : (place : ℕ) (text : List ℕ) (f g : Option ℕ) → Ends place text f → Ends place text g → f ≡ g
one_end place text None None d e = refl
one_end place text None (Some b) d e = absurd (fault_not_white place text b e d)
one_end place text (Some a) None d e = absurd (fault_not_white place text a d e)
one_end place text (Some a) (Some b) d e =
    let w = same_white d.white e.white d.rest e.rest d.blank e.blank d.faulty e.faulty (sym d.whole ∙ e.whole) in
    ap Some (d.at ∙ ap (λ z. place + length z) w.0 ∙ sym e.at)

-- a text has one list of tokens, and one fault at most
pub one_list : (ts us : List Token) (place : ℕ) (text : List ℕ) (f g : Option ℕ) → AreTokens place text ts f → AreTokens place text us g → (ts ≡ us) × (f ≡ g)
one_list [] [] place text f g d e = (refl, one_end place text f g d e)
one_list [] (u ∷ us) place text f g d e = absurd (ends_next place text f u e.0 d e.1)
one_list (t ∷ ts) [] place text f g d e = absurd (ends_next place text g t d.0 e d.1)
one_list (t ∷ ts) (u ∷ us) place text f g d e =
    let n = one_next place text t u d.0 e.0 d.1 e.1 in
    let p : t.end ≡ u.end = ap (λ (z : Token). z.end) n.0 in
    let r = one_list ts us t.end d.0 f g d.2 (subst (λ z. AreTokens t.end z us g) (sym n.1) (subst (λ z. AreTokens z e.0 us g) (sym p) e.2)) in
    (ap₂ (λ x y. x ∷ y) n.0 r.0, r.1)
