-- What each text has: one lexical fault, one grammar fault or one formula, and the size of this formula as its count.
use Rattle.std.proofs.Common.{◌≡◌, ℕ, ◌+◌, ◌⊎◌, inl, inr, List, [], ◌∷◌, ◌++◌, arith, refl, sym, ap, ◌∙◌, subst}
use Rattle.std.specs.Prelude.{Option, Some, None, slice_range}
use Rattle.std.specs.List.{All}
use Rattle.std.proofs.lemmas.List.Elements.{All-head, All-tail}
use Rattle.ltl_syntax.specs.declared.node.UnaryOp.{UnaryOp}
use Rattle.ltl_syntax.specs.declared.node.UnaryOp.TheVariants as one
use Rattle.ltl_syntax.specs.Formula.{Formula, Const, Name, Letter, Unary, Binary, Fresh, HasNoFresh, nodes_in}
use Rattle.ltl_syntax.specs.Size.{formula_size, IsInOrder}
use Rattle.ltl_lexer.specs.declared.token.UnaryWord.{UnaryWord}
use Rattle.ltl_lexer.specs.declared.token.UnaryWord.TheVariants as uword
use Rattle.ltl_lexer.specs.declared.token.TokenKind.{TokenKind}
use Rattle.ltl_lexer.specs.declared.token.TokenKind.TheVariants as kinds
use Rattle.ltl_lexer.specs.declared.token.Token.{Token}
use Rattle.ltl_lexer.specs.Tokens.{HasNumbers, Spells, AreTokens, IsLexicalFault, IsPartOf}
use Rattle.ltl_lexer.proofs.Words.{identifier_is_word, numbers_fit}
use Rattle.ltl_lexer.proofs.OneList.{one_list}
use Rattle.ltl_lexer.proofs.Places.{parts_of_text}
use Rattle.ltl_lexer.proofs.SomeList.{some_list}
use Rattle.ltl_parser.specs.Grammar.{Symbol, Leaf, Prefix, Infix, Open, Close, Reads, Apart, Applied, Enclosed, Alone, fault, node_count}
use Rattle.ltl_parser.specs.Text.{symbol, symbol_of, symbols, unary_op, IsWithin, ReadsText, grammar_fault, byte_at, IsGrammarFault, NodesOf, IsPrintable}
use Rattle.ltl_parser.specs.Standing.{units}
use Rattle.ltl_parser.proofs.Unique.{one_reading}
use Rattle.ltl_parser.proofs.Exists.{reading_of, no_fault}

-- a leaf is one node of size 1 and a name that can be printed, and the numbers of an operator are within their bounds
abbrev IsSimple : Symbol → Type 0
IsSimple (Leaf f) = (nodes_in f ≡ 1) × (formula_size f ≡ 1) × IsPrintable f
IsSimple (Prefix op) = IsWithin op
IsSimple (Infix op) = Unit {0}
IsSimple Open = Unit {0}
IsSimple Close = Unit {0}

abbrev AreSimple : List Symbol → Type 0
AreSimple [] = Unit {0}
AreSimple (s ∷ ss) = IsSimple s × AreSimple ss

within : (word : UnaryWord) → HasNumbers word → IsWithin (unary_op word)
within (uword.XTimes n) h = h
within (uword.YTimes n) h = h
within (uword.FIn a b) h = h
within (uword.GIn a b) h = h
within (uword.OIn a b) h = h
within (uword.HIn a b) h = h
within other h = tt

in_order : (op : UnaryOp) → IsWithin op → IsInOrder op
in_order (one.EventuallyIn a b) h = h.0
in_order (one.AlwaysIn a b) h = h.0
in_order (one.OnceIn a b) h = h.0
in_order (one.HistoricallyIn a b) h = h.0
in_order other h = tt

simple_symbol : (kind : TokenKind) (bytes : List ℕ) → Spells bytes kind → IsSimple (symbol kind bytes)
simple_symbol kinds.True bytes s = (refl, refl, tt)
simple_symbol kinds.False bytes s = (refl, refl, tt)
simple_symbol (kinds.Unary word) bytes s = within word (numbers_fit bytes (kinds.Unary word) word s refl)
simple_symbol kinds.Identifier bytes s = (refl, refl, identifier_is_word bytes s)
simple_symbol other bytes s = tt

-- the numbers of an operator that a token of a text names are in order
pub prefix_ordered : (text : List ℕ) (t : Token) (op : UnaryOp) → IsPartOf text t → symbol_of text t ≡ Prefix op → IsInOrder op
prefix_ordered text t op p e = in_order op (subst IsSimple e (simple_symbol t.kind (slice_range text t.start t.end) p.spells))

simple_from : (text : List ℕ) (ts : List Token) → All (IsPartOf text) ts → AreSimple (symbols text ts)
simple_from text [] h = tt
simple_from text (t ∷ ts) h = (simple_symbol t.kind _ (All-head (IsPartOf text) t ts h).spells, simple_from text ts (All-tail (IsPartOf text) t ts h))

simple_symbols : (text : List ℕ) (ts : List Token) → AreTokens 0 text ts None → AreSimple (symbols text ts)
simple_symbols text ts a = simple_from text ts (parts_of_text text ts None a)

simple_parts : (a b : List Symbol) → AreSimple (a ++ b) → AreSimple a × AreSimple b
simple_parts [] b s = (tt, s)
simple_parts (x ∷ a) b s = let w = simple_parts a b s.1 in ((s.0, w.0), w.1)

node_count-append : (a b : List Symbol) → node_count (a ++ b) ≡ node_count a + node_count b
node_count-append [] b = omega arith
node_count-append (x ∷ a) b = omega (arith, node_count-append a b)

-- the sizes of the tokens other than parentheses add up to that of the reading
sized : (ts : List Symbol) (f : Formula) → Reads ts f → AreSimple ts → node_count ts ≡ formula_size f
sized ts f (Apart t b a op x y m p q) s =
    let w = simple_parts b (Infix op ∷ a) (subst AreSimple m.outer.whole s) in
    let l = sized b x p w.0 in
    let r = sized a y q w.1.1 in
    let e = ap node_count m.outer.whole ∙ node_count-append b (Infix op ∷ a) in
    omega arith
sized ts f (Applied t r op x m e p) s =
    let w = subst AreSimple e s in
    let l = sized r x p w.1 in
    let n = ap node_count e in
    omega arith
sized ts f (Enclosed t i x m e p) s =
    let w = simple_parts i (Close ∷ []) (subst AreSimple e s).1 in
    let l = sized i x p w.0 in
    let n = ap node_count e in
    let k = node_count-append i (Close ∷ []) in
    omega arith
sized ts f (Alone t x e) s =
    let w = subst AreSimple e s in
    let l = w.0.1 in
    let n = ap node_count e in
    omega arith

units-append : (a b : List Symbol) → units (a ++ b) ≡ units a + units b
units-append [] b = omega arith
units-append (x ∷ a) b = omega (arith, units-append a b)

-- the tokens other than parentheses are the nodes of the reading
united : (ts : List Symbol) (f : Formula) → Reads ts f → AreSimple ts → units ts ≡ nodes_in f
united ts f (Apart t b a op x y m p q) s =
    let w = simple_parts b (Infix op ∷ a) (subst AreSimple m.outer.whole s) in
    let l = united b x p w.0 in
    let r = united a y q w.1.1 in
    let e = ap units m.outer.whole ∙ units-append b (Infix op ∷ a) in
    omega arith
united ts f (Applied t r op x m e p) s =
    let w = subst AreSimple e s in
    let l = united r x p w.1 in
    let n = ap units e in
    omega arith
united ts f (Enclosed t i x m e p) s =
    let w = simple_parts i (Close ∷ []) (subst AreSimple e s).1 in
    let l = united i x p w.0 in
    let n = ap units e in
    let k = units-append i (Close ∷ []) in
    omega arith
united ts f (Alone t x e) s =
    let w = subst AreSimple e s in
    let l = w.0.0 in
    let n = ap units e in
    omega arith

printable : (ts : List Symbol) (f : Formula) → Reads ts f → AreSimple ts → IsPrintable f
printable ts f (Apart t b a op x y m p q) s =
    let w = simple_parts b (Infix op ∷ a) (subst AreSimple m.outer.whole s) in
    (printable b x p w.0, printable a y q w.1.1)
printable ts f (Applied t r op x m e p) s = let w = subst AreSimple e s in (w.0, printable r x p w.1)
printable ts f (Enclosed t i x m e p) s = printable i x p (simple_parts i (Close ∷ []) (subst AreSimple e s).1).0
printable ts f (Alone t x e) s = (subst AreSimple e s).0.2

-- the names of what was read are identifiers that are not reserved
pub read_is_printable : (text : List ℕ) (f : Formula) → ReadsText text f → IsPrintable f
read_is_printable text f r = printable (symbols text r.tokens) f r.reads (simple_symbols text r.tokens r.lexed)

printed_without_fresh : (f : Formula) → IsPrintable f → HasNoFresh f
printed_without_fresh (Const b) p = tt
printed_without_fresh (Letter (Name bytes)) p = tt
printed_without_fresh (Letter (Fresh n)) p = p
printed_without_fresh (Unary op a) p = printed_without_fresh a p.1
printed_without_fresh (Binary op a b) p = (printed_without_fresh a p.0, printed_without_fresh b p.1)

-- what was read has no fresh letters
pub read_without_fresh : (text : List ℕ) (f : Formula) → ReadsText text f → HasNoFresh f
read_without_fresh text f r = printed_without_fresh f (read_is_printable text f r)

pub nodes_of_tokens : (text : List ℕ) (ts : List Token) (f : Formula) → AreTokens 0 text ts None → Reads (symbols text ts) f
    → nodes_in f ≡ units (symbols text ts)
nodes_of_tokens text ts f a r = sym (united (symbols text ts) f r (simple_symbols text ts a))

pub size_of_tokens : (text : List ℕ) (ts : List Token) (f : Formula) → AreTokens 0 text ts None → Reads (symbols text ts) f
    → formula_size f ≡ node_count (symbols text ts)
size_of_tokens text ts f a r = sym (sized (symbols text ts) f r (simple_symbols text ts a))

-- the size of a formula is that of each text that reads as it
pub nodes_of_text : (text : List ℕ) (f : Formula) → ReadsText text f → NodesOf text (formula_size f)
nodes_of_text text f r = record { tokens = r.tokens; lexed = r.lexed; count = size_of_tokens text r.tokens f r.lexed r.reads }

same_tokens : (text : List ℕ) (ts us : List Token) → AreTokens 0 text ts None → AreTokens 0 text us None → ts ≡ us
same_tokens text ts us p q = (one_list ts us 0 text None None p q).0

no_lexical : (text : List ℕ) (a : ℕ) (ts : List Token) → IsLexicalFault text a → AreTokens 0 text ts None → ⊥
no_lexical text a ts l q = let e = (one_list l.0 ts 0 text (Some a) None l.1 q).1 in cc

pub one_count : (text : List ℕ) (m n : ℕ) → NodesOf text m → NodesOf text n → m ≡ n
one_count text m n p q = p.count ∙ ap (λ z. node_count (symbols text z)) (same_tokens text p.tokens q.tokens p.lexed q.lexed) ∙ sym q.count

pub one_lexical_fault : (text : List ℕ) (a b : ℕ) → IsLexicalFault text a → IsLexicalFault text b → a ≡ b
one_lexical_fault text a b p q = let e = (one_list p.0 q.0 0 text (Some a) (Some b) p.1 q.1).1 in cc

pub one_grammar_fault : (text : List ℕ) (a b : ℕ) → IsGrammarFault text a → IsGrammarFault text b → a ≡ b
one_grammar_fault text a b p q = let e = sym p.fault ∙ ap (grammar_fault text) (same_tokens text p.tokens q.tokens p.lexed q.lexed) ∙ q.fault in cc

-- a text reads as one formula at most
pub one_text_reading : (text : List ℕ) (f g : Formula) → ReadsText text f → ReadsText text g → f ≡ g
one_text_reading text f g p q =
    one_reading (symbols text p.tokens) f g p.reads (subst (λ z. Reads (symbols text z) g) (same_tokens text q.tokens p.tokens q.lexed p.lexed) q.reads)

pub lexical_not_grammar : (text : List ℕ) (a b : ℕ) → IsLexicalFault text a → IsGrammarFault text b → ⊥
lexical_not_grammar text a b p q = no_lexical text a q.tokens p q.lexed

pub lexical_not_read : (text : List ℕ) (a : ℕ) (f : Formula) → IsLexicalFault text a → ReadsText text f → ⊥
lexical_not_read text a f p q = no_lexical text a q.tokens p q.lexed

pub grammar_not_read : (text : List ℕ) (a : ℕ) (f : Formula) → IsGrammarFault text a → ReadsText text f → ⊥
grammar_not_read text a f p q =
    let clean = ap (byte_at text q.tokens) (no_fault (symbols text q.tokens) f q.reads) in
    let faulty = ap (grammar_fault text) (same_tokens text q.tokens p.tokens q.lexed p.lexed) ∙ p.fault in
    cc

-- a text that has tokens reads as a formula or has a grammar fault
pub read_or_fault : (text : List ℕ) (ts : List Token) → AreTokens 0 text ts None → ((f : Formula) × ReadsText text f) ⊎ ((byte : ℕ) × IsGrammarFault text byte)
read_or_fault text ts a = go (fault (symbols text ts)) refl
  where
    go : (w : Option ℕ) → fault (symbols text ts) ≡ w → ((f : Formula) × ReadsText text f) ⊎ ((byte : ℕ) × IsGrammarFault text byte)
    go None e = let r = reading_of (symbols text ts) e in inl (r.0, record { tokens = ts; lexed = a; reads = r.1 })
    go (Some i) e = inr (_, record { tokens = ts; lexed = a; fault = ap (byte_at text ts) e })

-- a text has a lexical fault, a grammar fault or a formula
abbrev HasOutcome : List ℕ → Type 0
HasOutcome text = ((byte : ℕ) × IsLexicalFault text byte) ⊎ (((byte : ℕ) × IsGrammarFault text byte) ⊎ ((f : Formula) × ReadsText text f))

pub some_outcome : (text : List ℕ) → HasOutcome text
some_outcome text = let t = some_list text in go t.0 t.1 t.2
  where
    go : (ts : List Token) (f : Option ℕ) → AreTokens 0 text ts f → HasOutcome text
    go ts None a = elim (read_or_fault text ts a) [ inl r ↦ inr (inr r) | inr g ↦ inr (inl g) ]
    go ts (Some byte) a = inl (byte, (ts, a))
