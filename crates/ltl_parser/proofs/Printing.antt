-- A printed text reads as the formula.
use Rattle.std.proofs.Common.{◌≡◌, ℕ, ◌+◌, ◌<◌, true, false, List, [], ◌∷◌, ◌++◌, length, arith, refl, sym, ap, ap₂, ◌∙◌, subst, append_assoc, length-append}
use Rattle.std.specs.Prelude.{Some, None, codes}
use Rattle.std.specs.Fmt.{decimal}
use Rattle.std.proofs.lemmas.List.{append-nil}
use Rattle.ltl_syntax.specs.declared.node.UnaryOp.{UnaryOp}
use Rattle.ltl_syntax.specs.declared.node.BinaryOp.{BinaryOp}
use Rattle.ltl_syntax.specs.declared.node.UnaryOp.TheVariants as one
use Rattle.ltl_syntax.specs.declared.node.BinaryOp.TheVariants as two
use Rattle.ltl_syntax.specs.Formula.{Formula, Const, Name, Letter, Unary, Binary, Fresh}
use Rattle.ltl_syntax.specs.Print.{text_of, unary_text, binary_text}
use Rattle.ltl_lexer.specs.declared.token.TokenKind.{TokenKind}
use Rattle.ltl_lexer.specs.declared.token.TokenKind.TheVariants as kinds
use Rattle.ltl_lexer.specs.declared.token.UnaryWord.{UnaryWord}
use Rattle.ltl_lexer.specs.declared.token.UnaryWord.TheVariants as uword
use Rattle.ltl_lexer.specs.declared.token.BinaryWord.TheVariants as bword
use Rattle.ltl_lexer.specs.declared.token.Token.{Token}
use Rattle.ltl_lexer.specs.Tokens.{AreTokens, IsNext, IsLongest, IsWord, IsBounded, word_kind, sign}
use Rattle.ltl_lexer.proofs.Words.{Breaks, is_word_byte, word_longest, bounded_longest, sign_longest, ascii_word}
use Rattle.ltl_lexer.proofs.Places.{between}
use Rattle.ltl_parser.specs.Grammar.{Symbol, Leaf, Prefix, Infix, Open, Close, Reads}
use Rattle.ltl_parser.specs.Text.{symbol, symbols, unary_op, ReadsText, IsWithin, IsPrintable}
use Rattle.ltl_parser.specs.Standing.{IsPart}
use Rattle.ltl_parser.proofs.Parts.{leaf_part, prefix_part, enclosed_part, join_part}

-- what the printed text says
abbrev pub printed : Formula → List Symbol
printed (Const b) = Leaf (Const b) ∷ []
printed (Letter (Name name)) = Leaf (Letter (Name name)) ∷ []
printed (Letter (Fresh n)) = Leaf (Letter (Fresh n)) ∷ []
printed (Unary op a) = Prefix op ∷ printed a
printed (Binary op a b) = Open ∷ ((printed a ++ Infix op ∷ printed b) ++ Close ∷ [])

pub printed_part : (f : Formula) (k : ℕ) → IsPart k (printed f) f
printed_part (Const b) k = leaf_part k (Const b)
printed_part (Letter (Name name)) k = leaf_part k (Letter (Name name))
printed_part (Letter (Fresh n)) k = leaf_part k (Letter (Fresh n))
printed_part (Unary op a) k = prefix_part op a (printed a) (printed_part a 5) k
printed_part (Binary op a b) k =
    enclosed_part (printed a ++ Infix op ∷ printed b) (Binary op a b) _ (join_part (printed a) (printed b) a b op (printed_part a _) (printed_part b _)) k

-- a text behind some bytes, and what its tokens say
pub record Lexes (before text : List ℕ) (ss : List Symbol) : Type 0 where
  pub tokens : List Token
  pub lexed : AreTokens (length before) text tokens None
  pub says : symbols (before ++ text) tokens ≡ ss

-- one token more
pub more : (before bytes rest : List ℕ) (kind : TokenKind) (s : Symbol) (ss : List Symbol) → IsLongest kind bytes rest
    → symbol kind bytes ≡ s → Lexes (before ++ bytes) rest ss → Lexes before (bytes ++ rest) (s ∷ ss)
more before bytes rest kind s ss g e l =
    let token : Token = record { kind = kind; start = length before; end = length before + length bytes } in
    let next : IsNext (length before) (bytes ++ rest) token rest = record {
      white = [];
      bytes = bytes;
      whole = refl;
      blank = refl;
      start = omega arith;
      end = refl;
      longest = g;
    } in
    record {
      tokens = token ∷ l.tokens;
      lexed = (rest, next, subst (λ n. AreTokens n rest l.tokens None) (length-append before bytes) l.lexed);
      says =
          ap₂ (λ x xs. x ∷ xs) (ap (symbol kind) (between before bytes rest) ∙ e)
          (ap (λ z. symbols z l.tokens) (sym (append_assoc before bytes rest)) ∙ l.says);
    }

space_front : (place : ℕ) (text : List ℕ) (ts : List Token) → AreTokens (place + 1) text ts None → AreTokens place (32 ∷ text) ts None
space_front place text [] d = d
space_front place text (t ∷ ts) d = (
  d.0,
  record {
    white = 32 ∷ d.1.white;
    bytes = d.1.bytes;
    whole = ap (λ z. 32 ∷ z) d.1.whole;
    blank = d.1.blank;
    start = let e = d.1.start in omega arith;
    end = d.1.end;
    longest = d.1.longest;
  },
  d.2,
)

-- a space more
pub spaced : (before text : List ℕ) (ss : List Symbol) → Lexes (before ++ 32 ∷ []) text ss → Lexes before (32 ∷ text) ss
spaced before text ss l = record {
  tokens = l.tokens;
  lexed = space_front (length before) text l.tokens (subst (λ n. AreTokens n text l.tokens None) (length-append before (32 ∷ [])) l.lexed);
  says = ap (λ z. symbols z l.tokens) (sym (append_assoc before (32 ∷ []) text)) ∙ l.says;
}

-- the text lexes so wherever it stands
abbrev pub Says : List ℕ → List Symbol → Type 0
Says text ss = (before : List ℕ) → Lexes before text ss

says_nothing : Says [] []
says_nothing before = record { tokens = []; lexed = refl; says = refl }

says_space : (text : List ℕ) (ss : List Symbol) → Says text ss → Says (32 ∷ text) ss
says_space text ss h before = spaced before text ss (h (before ++ 32 ∷ []))

says_word : (bytes text : List ℕ) (kind : TokenKind) (ss : List Symbol) → IsWord bytes → word_kind bytes ≡ kind → Breaks text → Says text ss
    → Says (bytes ++ text) (symbol kind bytes ∷ ss)
says_word bytes text kind ss w k b h before = more before bytes text kind (symbol kind bytes) ss (word_longest kind bytes text w k b) refl (h (before ++ bytes))

says_sign : (b : ℕ) (bs text : List ℕ) (kind : TokenKind) (ss : List Symbol) → sign (b ∷ bs) ≡ Some kind
    → b < 128 → is_word_byte b ≡ false → ((x : ℕ) (m after : List ℕ) → text ≡ x ∷ m ++ after → sign (b ∷ (bs ++ x ∷ m)) ≡ None) → Says text ss
    → Says (b ∷ (bs ++ text)) (symbol kind (b ∷ bs) ∷ ss)
says_sign b bs text kind ss e l n none h before =
    more before (b ∷ bs) text kind (symbol kind (b ∷ bs)) ss (sign_longest kind b bs text e l n none) refl (h (before ++ b ∷ bs))

-- an operator between two spaces
spaced_infix : (op : BinaryOp) (text : List ℕ) (ss : List Symbol) → Says text ss → Says (binary_text op ++ text) (Infix op ∷ ss)
spaced_infix two.And text ss h = says_space (codes "&" ++ 32 ∷ text) (Infix two.And ∷ ss) (says_sign 38 [] (32 ∷ text) kinds.And ss refl (omega arith) refl
    (λ x m after e. let d : x ≡ 32 = cc in ap (λ z. sign (38 ∷ z ∷ m)) d) (says_space text ss h))
spaced_infix two.Or text ss h = says_space (codes "|" ++ 32 ∷ text) (Infix two.Or ∷ ss) (says_sign 124 [] (32 ∷ text) kinds.Or ss refl (omega arith) refl
    (λ x m after e. let d : x ≡ 32 = cc in ap (λ z. sign (124 ∷ z ∷ m)) d) (says_space text ss h))
spaced_infix two.Implies text ss h = says_space (codes "->" ++ 32 ∷ text) (Infix two.Implies ∷ ss)
    (says_sign 45 (62 ∷ []) (32 ∷ text) kinds.Implies ss refl (omega arith) refl (λ x m after e. refl) (says_space text ss h))
spaced_infix two.Iff text ss h = says_space (codes "<->" ++ 32 ∷ text) (Infix two.Iff ∷ ss)
    (says_sign 60 (45 ∷ 62 ∷ []) (32 ∷ text) kinds.Iff ss refl (omega arith) refl (λ x m after e. refl) (says_space text ss h))
spaced_infix two.Until text ss h = says_space (codes "U" ++ 32 ∷ text) (Infix two.Until ∷ ss)
    (says_word (codes "U") (32 ∷ text) (kinds.Binary bword.U) ss (ascii_word 85 [] refl refl) refl (omega arith, refl, refl) (says_space text ss h))
spaced_infix two.Release text ss h = says_space (codes "R" ++ 32 ∷ text) (Infix two.Release ∷ ss)
    (says_word (codes "R") (32 ∷ text) (kinds.Binary bword.R) ss (ascii_word 82 [] refl refl) refl (omega arith, refl, refl) (says_space text ss h))
spaced_infix two.WeakUntil text ss h = says_space (codes "W" ++ 32 ∷ text) (Infix two.WeakUntil ∷ ss)
    (says_word (codes "W") (32 ∷ text) (kinds.Binary bword.W) ss (ascii_word 87 [] refl refl) refl (omega arith, refl, refl) (says_space text ss h))
spaced_infix two.StrongRelease text ss h = says_space (codes "M" ++ 32 ∷ text) (Infix two.StrongRelease ∷ ss)
    (says_word (codes "M") (32 ∷ text) (kinds.Binary bword.M) ss (ascii_word 77 [] refl refl) refl (omega arith, refl, refl) (says_space text ss h))
spaced_infix two.Since text ss h = says_space (codes "S" ++ 32 ∷ text) (Infix two.Since ∷ ss)
    (says_word (codes "S") (32 ∷ text) (kinds.Binary bword.S) ss (ascii_word 83 [] refl refl) refl (omega arith, refl, refl) (says_space text ss h))
spaced_infix two.Trigger text ss h = says_space (codes "T" ++ 32 ∷ text) (Infix two.Trigger ∷ ss)
    (says_word (codes "T") (32 ∷ text) (kinds.Binary bword.T) ss (ascii_word 84 [] refl refl) refl (omega arith, refl, refl) (says_space text ss h))

spaced_breaks : (op : BinaryOp) (text : List ℕ) → Breaks (binary_text op ++ text)
spaced_breaks two.And text = (omega arith, refl, refl)
spaced_breaks other text = (omega arith, refl, refl)

unary_word : (b : ℕ) (bs text : List ℕ) (kind : TokenKind) (op : UnaryOp) (ss : List Symbol) → IsWord (b ∷ bs)
    → word_kind (b ∷ bs) ≡ kind → symbol kind (b ∷ bs) ≡ Prefix op → Says text ss → Says (b ∷ (bs ++ 32 ∷ text)) (Prefix op ∷ ss)
unary_word b bs text kind op ss w k e h =
    subst (λ s. Says (b ∷ (bs ++ 32 ∷ text)) (s ∷ ss)) e (says_word (b ∷ bs) (32 ∷ text) kind ss w k (omega arith, refl, refl) (says_space text ss h))

-- a bounded operator, whose closing bracket stands before a space
says_bounded : (word : UnaryWord) (front text : List ℕ) (ss : List Symbol) → IsBounded (front ++ 93 ∷ []) word → Says text ss
    → Says ((front ++ 93 ∷ 32 ∷ []) ++ text) (Prefix (unary_op word) ∷ ss)
says_bounded word front text ss g h =
    let e : (front ++ 93 ∷ []) ++ 32 ∷ text ≡ (front ++ 93 ∷ 32 ∷ []) ++ text =
    append_assoc front (93 ∷ []) (32 ∷ text) ∙ sym (append_assoc front (93 ∷ 32 ∷ []) text) in
    subst (λ z. Says z (Prefix (unary_op word) ∷ ss)) e
    (λ before. more before (front ++ 93 ∷ []) (32 ∷ text) (kinds.Unary word) (Prefix (unary_op word)) ss (bounded_longest word (front ++ 93 ∷ []) (32 ∷ text) g)
    refl (says_space text ss h (before ++ (front ++ 93 ∷ []))))

unary_front : (op : UnaryOp) → IsWithin op → (text : List ℕ) (ss : List Symbol) → Says text ss → Says (unary_text op ++ text) (Prefix op ∷ ss)
unary_front one.Not w text ss h = says_sign 33 [] text kinds.Not ss refl (omega arith) refl (λ x m after e. refl) h
unary_front one.Next w text ss h = unary_word 88 [] text (kinds.Unary uword.X) one.Next ss (ascii_word 88 [] refl refl) refl refl h
unary_front one.WeakNext w text ss h = unary_word 119 (88 ∷ []) text (kinds.Unary uword.WX) one.WeakNext ss (ascii_word 119 (88 ∷ []) refl refl) refl refl h
unary_front one.Eventually w text ss h = unary_word 70 [] text (kinds.Unary uword.F) one.Eventually ss (ascii_word 70 [] refl refl) refl refl h
unary_front one.Always w text ss h = unary_word 71 [] text (kinds.Unary uword.G) one.Always ss (ascii_word 71 [] refl refl) refl refl h
unary_front one.Yesterday w text ss h = unary_word 89 [] text (kinds.Unary uword.Y) one.Yesterday ss (ascii_word 89 [] refl refl) refl refl h
unary_front one.WeakYesterday w text ss h = unary_word 90 [] text (kinds.Unary uword.Z) one.WeakYesterday ss (ascii_word 90 [] refl refl) refl refl h
unary_front one.Once w text ss h = unary_word 79 [] text (kinds.Unary uword.O) one.Once ss (ascii_word 79 [] refl refl) refl refl h
unary_front one.Historically w text ss h = unary_word 72 [] text (kinds.Unary uword.H) one.Historically ss (ascii_word 72 [] refl refl) refl refl h
unary_front (one.NextTimes n) w text ss h = says_bounded (uword.XTimes n) (88 ∷ 91 ∷ decimal n) text ss (w, refl) h
unary_front (one.YesterdayTimes n) w text ss h = says_bounded (uword.YTimes n) (89 ∷ 91 ∷ decimal n) text ss (w, refl) h
unary_front (one.EventuallyIn a b) w text ss h = says_bounded (uword.FIn a b) (70 ∷ 91 ∷ ((decimal a ++ 44 ∷ []) ++ decimal b)) text ss (w.0, w.1, refl) h
unary_front (one.AlwaysIn a b) w text ss h = says_bounded (uword.GIn a b) (71 ∷ 91 ∷ ((decimal a ++ 44 ∷ []) ++ decimal b)) text ss (w.0, w.1, refl) h
unary_front (one.OnceIn a b) w text ss h = says_bounded (uword.OIn a b) (79 ∷ 91 ∷ ((decimal a ++ 44 ∷ []) ++ decimal b)) text ss (w.0, w.1, refl) h
unary_front (one.HistoricallyIn a b) w text ss h = says_bounded (uword.HIn a b) (72 ∷ 91 ∷ ((decimal a ++ 44 ∷ []) ++ decimal b)) text ss (w.0, w.1, refl) h

open_front : (text : List ℕ) (ss : List Symbol) → Says text ss → Says (40 ∷ text) (Open ∷ ss)
open_front text ss h = says_sign 40 [] text kinds.OpenParen ss refl (omega arith) refl (λ x m after e. refl) h

close_front : (text : List ℕ) (ss : List Symbol) → Says text ss → Says (41 ∷ text) (Close ∷ ss)
close_front text ss h = says_sign 41 [] text kinds.CloseParen ss refl (omega arith) refl (λ x m after e. refl) h

-- the printed text and what stands behind it
pub printed_says : (f : Formula) → IsPrintable f → (text : List ℕ) (ss : List Symbol) → Breaks text → Says text ss → Says (text_of f ++ text) (printed f ++ ss)
printed_says (Const true) p text ss b h = says_word (codes "true") text kinds.True ss (ascii_word 116 (codes "rue") refl refl) refl b h
printed_says (Const false) p text ss b h = says_word (codes "false") text kinds.False ss (ascii_word 102 (codes "alse") refl refl) refl b h
printed_says (Letter (Name name)) p text ss b h = says_word name text kinds.Identifier ss p.0 p.1 b h
printed_says (Letter (Fresh n)) p text ss b h = absurd p
printed_says (Unary op a) p text ss b h = subst (λ z. Says z (Prefix op ∷ (printed a ++ ss))) (sym (append_assoc (unary_text op) (text_of a) text))
    (unary_front op p.0 (text_of a ++ text) (printed a ++ ss) (printed_says a p.1 text ss b h))
printed_says (Binary op x y) p text ss b h =
    let right = printed_says y p.1 (41 ∷ text) (Close ∷ ss) (omega arith, refl, refl) (close_front text ss h) in
    let inner = spaced_infix op (text_of y ++ 41 ∷ text) (printed y ++ Close ∷ ss) right in
    let left = printed_says x p.0 (binary_text op ++ (text_of y ++ 41 ∷ text)) (Infix op ∷ (printed y ++ Close ∷ ss))
    (spaced_breaks op (text_of y ++ 41 ∷ text)) inner in
    let all = open_front (text_of x ++ (binary_text op ++ (text_of y ++ 41 ∷ text))) (printed x ++ Infix op ∷ (printed y ++ Close ∷ ss)) left in
    let bytes : text_of (Binary op x y) ++ text ≡ 40 ∷ (text_of x ++ (binary_text op ++ (text_of y ++ 41 ∷ text))) = simp append_assoc in
    let said : printed (Binary op x y) ++ ss ≡ Open ∷ (printed x ++ Infix op ∷ (printed y ++ Close ∷ ss)) = simp append_assoc in
    subst (λ z. Says (text_of (Binary op x y) ++ text) z) (sym said)
    (subst (λ z. Says z (Open ∷ (printed x ++ Infix op ∷ (printed y ++ Close ∷ ss)))) (sym bytes) all)

-- the printed text of a formula reads as this formula
pub printed_reads : (f : Formula) → IsPrintable f → ReadsText (text_of f) f
printed_reads f p =
    let l = printed_says f p [] [] tt says_nothing [] in
    let e : text_of f ++ [] ≡ text_of f = append-nil (text_of f) in
    record {
      tokens = l.tokens;
      lexed = subst (λ z. AreTokens 0 z l.tokens None) e l.lexed;
      reads = subst (λ z. Reads z f) (sym (ap (λ z. symbols z l.tokens) (sym e) ∙ l.says ∙ append-nil (printed f))) (printed_part f 0).reads;
    }
