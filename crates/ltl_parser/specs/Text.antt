-- The formula that a text reads as, or the byte of its fault, and the formulas that are accepted.
use Rattle.std.specs.Prelude.{◌≡◌, ℕ, zero, suc, ◌<◌, ◌≤◌, true, false, List, [], ◌∷◌, ◌++◌, length, map, slice_range, bytes_eq, if◌then◌else◌, Option, Some}
use Rattle.std.specs.Prelude.{None}
use Rattle.std.specs.List.{list_any}
use Rattle.ltl_syntax.specs.declared.node.UnaryOp.{UnaryOp}
use Rattle.ltl_syntax.specs.declared.node.BinaryOp.{BinaryOp}
use Rattle.ltl_syntax.specs.declared.node.UnaryOp.TheVariants as one
use Rattle.ltl_syntax.specs.declared.node.BinaryOp.TheVariants as two
use Rattle.ltl_syntax.specs.Formula.{Formula, Const, Name, Letter, Unary, Binary, Fresh}
use Rattle.ltl_syntax.specs.Size.{formula_size}
use Rattle.ltl_lexer.specs.declared.token.TokenKind.{TokenKind}
use Rattle.ltl_lexer.specs.declared.token.TokenKind.TheVariants as kinds
use Rattle.ltl_lexer.specs.declared.token.UnaryWord.{UnaryWord}
use Rattle.ltl_lexer.specs.declared.token.BinaryWord.{BinaryWord}
use Rattle.ltl_lexer.specs.declared.token.UnaryWord.TheVariants as uword
use Rattle.ltl_lexer.specs.declared.token.BinaryWord.TheVariants as bword
use Rattle.ltl_lexer.specs.declared.token.Token.{Token}
use Rattle.ltl_lexer.specs.Tokens.{AreTokens, IsWord, word_kind}
use Rattle.ltl_parser.specs.Grammar.{Symbol, Leaf, Prefix, Infix, Open, Close, Reads, fault, node_count}
use Rattle.ltl_parser.specs.declared.parsing.ParseRefused.{ParseRefused}
use Rattle.ltl_parser.specs.declared.parsing.ParseRefused.TheVariants as refused

-- the operators that the reserved words and the bounded operators name
abbrev pub unary_op : UnaryWord → UnaryOp
unary_op uword.X = one.Next
unary_op uword.WX = one.WeakNext
unary_op uword.F = one.Eventually
unary_op uword.G = one.Always
unary_op uword.Y = one.Yesterday
unary_op uword.Z = one.WeakYesterday
unary_op uword.O = one.Once
unary_op uword.H = one.Historically
unary_op (uword.XTimes n) = one.NextTimes n
unary_op (uword.YTimes n) = one.YesterdayTimes n
unary_op (uword.FIn a b) = one.EventuallyIn a b
unary_op (uword.GIn a b) = one.AlwaysIn a b
unary_op (uword.OIn a b) = one.OnceIn a b
unary_op (uword.HIn a b) = one.HistoricallyIn a b

abbrev pub binary_op : BinaryWord → BinaryOp
binary_op bword.U = two.Until
binary_op bword.R = two.Release
binary_op bword.W = two.WeakUntil
binary_op bword.M = two.StrongRelease
binary_op bword.S = two.Since
binary_op bword.T = two.Trigger

-- what a token of this kind and with these bytes says
abbrev pub symbol : TokenKind → List ℕ → Symbol
symbol kinds.True bytes = Leaf (Const true)
symbol kinds.False bytes = Leaf (Const false)
symbol kinds.Not bytes = Prefix one.Not
symbol kinds.And bytes = Infix two.And
symbol kinds.Or bytes = Infix two.Or
symbol kinds.Implies bytes = Infix two.Implies
symbol kinds.Iff bytes = Infix two.Iff
symbol kinds.OpenParen bytes = Open
symbol kinds.CloseParen bytes = Close
symbol (kinds.Unary word) bytes = Prefix (unary_op word)
symbol (kinds.Binary word) bytes = Infix (binary_op word)
symbol kinds.Identifier bytes = Leaf (Letter (Name bytes))

-- what a token of the text says
abbrev pub symbol_of : List ℕ → Token → Symbol
symbol_of text t = symbol t.kind (slice_range text t.start t.end)

-- what the tokens of the text say
abbrev pub symbols : List ℕ → List Token → List Symbol
symbols text ts = map (symbol_of text) ts

-- the text reads as the formula
pub record ReadsText (text : List ℕ) (f : Formula) : Type 0 where
  pub tokens : List Token
  pub lexed : AreTokens 0 text tokens None
  pub reads : Reads (symbols text tokens) f

-- the first byte of the token with this number, or the end of the text behind the last
abbrev pub byte_of : List Token → ℕ → ℕ → ℕ
byte_of [] end i = end
byte_of (t ∷ ts) end zero = t.start
byte_of (t ∷ ts) end (suc i) = byte_of ts end i

-- the byte at which this number of tokens of the text have been passed
abbrev pub byte_at : List ℕ → List Token → Option ℕ → Option ℕ
byte_at text ts None = None
byte_at text ts (Some i) = Some (byte_of ts (length text) i)

-- the byte of the grammar fault, if there is one: that of the faulty token, or the length of the text
abbrev pub grammar_fault : List ℕ → List Token → Option ℕ
grammar_fault text ts = byte_at text ts (fault (symbols text ts))

-- the text has tokens, and the walk over them meets a fault at this byte
pub record IsGrammarFault (text : List ℕ) (byte : ℕ) : Type 0 where
  pub tokens : List Token
  pub lexed : AreTokens 0 text tokens None
  pub fault : grammar_fault text tokens ≡ Some byte

-- the text has tokens, and the sizes of those that are no parentheses add up to this
pub record NodesOf (text : List ℕ) (nodes : ℕ) : Type 0 where
  pub tokens : List Token
  pub lexed : AreTokens 0 text tokens None
  pub count : nodes ≡ node_count (symbols text tokens)

-- the text is within the limit, it reads as the formula, and the formula is within its limit
pub record IsAccepted (text : List ℕ) (f : Formula) : Type 0 where
  pub short : length text ≤ 1048576
  pub reads : ReadsText text f
  pub few : formula_size f ≤ 16384

-- the names that occur, with the one of the next symbol behind them where it has one and it is new
abbrev pub with_name : List (List ℕ) → Symbol → List (List ℕ)
with_name names (Leaf (Letter (Name name))) = if list_any (bytes_eq name) names then names else names ++ name ∷ []
with_name names _ = names

-- the names behind some others, in the order of first appearance
abbrev pub names_after : List (List ℕ) → List Symbol → List (List ℕ)
names_after names [] = names
names_after names (s ∷ ss) = names_after (with_name names s) ss

-- the names that occur in a token list, each once, in the order of first appearance
abbrev pub names_of : List Symbol → List (List ℕ)
names_of ss = names_after [] ss

-- the operator's numbers are at most 255, and in order
abbrev pub IsWithin : UnaryOp → Type 0
IsWithin one.Not = Unit {0}
IsWithin one.Next = Unit {0}
IsWithin one.WeakNext = Unit {0}
IsWithin one.Eventually = Unit {0}
IsWithin one.Always = Unit {0}
IsWithin one.Yesterday = Unit {0}
IsWithin one.WeakYesterday = Unit {0}
IsWithin one.Once = Unit {0}
IsWithin one.Historically = Unit {0}
IsWithin (one.NextTimes n) = n ≤ 255
IsWithin (one.YesterdayTimes n) = n ≤ 255
IsWithin (one.EventuallyIn a b) = (a ≤ b) × (b ≤ 255)
IsWithin (one.AlwaysIn a b) = (a ≤ b) × (b ≤ 255)
IsWithin (one.OnceIn a b) = (a ≤ b) × (b ≤ 255)
IsWithin (one.HistoricallyIn a b) = (a ≤ b) × (b ≤ 255)

-- no fresh letters, the names are identifiers that are not reserved, and the numbers of the operators are within their bounds
abbrev pub IsPrintable : Formula → Type 0
IsPrintable (Const b) = Unit {0}
IsPrintable (Letter (Name name)) = IsWord name × (word_kind name ≡ kinds.Identifier)
IsPrintable (Letter (Fresh n)) = ⊥
IsPrintable (Unary op a) = IsWithin op × IsPrintable a
IsPrintable (Binary op a b) = IsPrintable a × IsPrintable b

-- why the tokens of a text are refused: a fault first, then too many nodes, and want of memory only where neither is
abbrev pub IsRefusal : List ℕ → List Token → ParseRefused → Type 0
IsRefusal text ts (refused.Grammar byte) = grammar_fault text ts ≡ Some byte
IsRefusal text ts (refused.Nodes nodes) = (grammar_fault text ts ≡ None) × (nodes ≡ node_count (symbols text ts)) × (16384 < nodes)
IsRefusal text ts refused.NoMemory = (grammar_fault text ts ≡ None) × (node_count (symbols text ts) ≤ 16384)
