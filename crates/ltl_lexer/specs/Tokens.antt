-- The tokens of a text: at each place behind white space the longest spelling, up to the first byte that begins none.
use Rattle.std.specs.Prelude.{◌≡◌, ℕ, ◌+◌, ◌<◌, ◌≤◌, Bool, false, ◌||◌, ◌==◌, IsTrue, List, [], ◌∷◌, ◌++◌, length, slice_range, ◌⊎◌, Option, Some, None, Result}
use Rattle.std.specs.Prelude.{Ok, Err, if◌then◌else◌, codes, bytes_eq, encode_utf8_all}
use Rattle.std.specs.Str.{all_scalars}
use Rattle.std.specs.Fmt.{decimal}
use Rattle.std.specs.List.{list_all}
use Rattle.unicode_ident.specs.Ident.{is_xid_start, is_xid_continue}
use Rattle.ltl_lexer.specs.declared.token.TokenKind.{TokenKind}
use Rattle.ltl_lexer.specs.declared.token.TokenKind.TheVariants as kinds
use Rattle.ltl_lexer.specs.declared.token.UnaryWord.{UnaryWord}
use Rattle.ltl_lexer.specs.declared.token.UnaryWord.TheVariants as unary
use Rattle.ltl_lexer.specs.declared.token.BinaryWord.TheVariants as binary
use Rattle.ltl_lexer.specs.declared.token.Token.{Token}
use Rattle.ltl_lexer.specs.declared.cursor.LexFault.{LexFault}
use Rattle.ltl_lexer.specs.declared.cursor.LexRefused.{LexRefused}
use Rattle.ltl_lexer.specs.declared.cursor.LexRefused.TheVariants as refused

-- space, tab, newline and carriage return
abbrev pub is_white : ℕ → Bool
is_white b = (b == 32) || (b == 9) || (b == 10) || (b == 13)

-- every byte is white space
abbrev pub AreWhite : List ℕ → Type 0
AreWhite bytes = IsTrue (list_all is_white bytes)

-- the kind of the token that these bytes spell, where they are a sign; a sign is no word
abbrev pub sign : List ℕ → Option TokenKind
sign bytes =
    if bytes_eq bytes (codes "!") || bytes_eq bytes (codes "~") then Some kinds.Not
    else (if bytes_eq bytes (codes "&") || bytes_eq bytes (codes "&&") then Some kinds.And
    else (if bytes_eq bytes (codes "|") || bytes_eq bytes (codes "||") then Some kinds.Or
    else (if bytes_eq bytes (codes "->") || bytes_eq bytes (codes "=>") then Some kinds.Implies
    else (if bytes_eq bytes (codes "<->") || bytes_eq bytes (codes "<=>") then Some kinds.Iff
    else (if bytes_eq bytes (codes "(") then Some kinds.OpenParen
    else (if bytes_eq bytes (codes ")") then Some kinds.CloseParen
    else None))))))

-- a word is the UTF-8 of the characters of an identifier
pub record IsWord (bytes : List ℕ) : Type 0 where
  pub first : ℕ
  pub others : List ℕ
  pub starts : IsTrue (is_xid_start first || (first == 95))
  pub continues : IsTrue (list_all is_xid_continue others)
  pub characters : IsTrue (all_scalars (first ∷ others))
  pub spelled : encode_utf8_all (first ∷ others) ≡ bytes

-- the kind of a word: a reserved word is an operator or a constant, and every other one an identifier
abbrev pub word_kind : List ℕ → TokenKind
word_kind bytes =
    if bytes_eq bytes (codes "true") || bytes_eq bytes (codes "True") then kinds.True
    else (if bytes_eq bytes (codes "false") || bytes_eq bytes (codes "False") then kinds.False
    else (if bytes_eq bytes (codes "X") then kinds.Unary unary.X
    else (if bytes_eq bytes (codes "wX") then kinds.Unary unary.WX
    else (if bytes_eq bytes (codes "F") then kinds.Unary unary.F
    else (if bytes_eq bytes (codes "G") then kinds.Unary unary.G
    else (if bytes_eq bytes (codes "Y") then kinds.Unary unary.Y
    else (if bytes_eq bytes (codes "Z") then kinds.Unary unary.Z
    else (if bytes_eq bytes (codes "O") then kinds.Unary unary.O
    else (if bytes_eq bytes (codes "H") then kinds.Unary unary.H
    else (if bytes_eq bytes (codes "U") then kinds.Binary binary.U
    else (if bytes_eq bytes (codes "R") then kinds.Binary binary.R
    else (if bytes_eq bytes (codes "W") then kinds.Binary binary.W
    else (if bytes_eq bytes (codes "M") then kinds.Binary binary.M
    else (if bytes_eq bytes (codes "S") then kinds.Binary binary.S
    else (if bytes_eq bytes (codes "T") then kinds.Binary binary.T
    else kinds.Identifier)))))))))))))))

-- a word, and right behind it a number from 0 to 255 between brackets, without leading zeros
abbrev pub HasTimes : List ℕ → ℕ → List ℕ → Type 0
HasTimes word n bytes = (n ≤ 255) × (bytes ≡ word ++ codes "[" ++ decimal n ++ codes "]")

-- a word, and right behind it two numbers between brackets, of which the first is not above the second
abbrev pub HasRange : List ℕ → ℕ → ℕ → List ℕ → Type 0
HasRange word a b bytes = (a ≤ b) × (b ≤ 255) × (bytes ≡ word ++ codes "[" ++ decimal a ++ codes "," ++ decimal b ++ codes "]")

-- the bytes are a bounded operator
abbrev pub IsBounded : List ℕ → UnaryWord → Type 0
IsBounded bytes unary.X = ⊥
IsBounded bytes unary.WX = ⊥
IsBounded bytes unary.F = ⊥
IsBounded bytes unary.G = ⊥
IsBounded bytes unary.Y = ⊥
IsBounded bytes unary.Z = ⊥
IsBounded bytes unary.O = ⊥
IsBounded bytes unary.H = ⊥
IsBounded bytes (unary.XTimes n) = HasTimes (codes "X") n bytes
IsBounded bytes (unary.YTimes n) = HasTimes (codes "Y") n bytes
IsBounded bytes (unary.FIn a b) = HasRange (codes "F") a b bytes
IsBounded bytes (unary.GIn a b) = HasRange (codes "G") a b bytes
IsBounded bytes (unary.OIn a b) = HasRange (codes "O") a b bytes
IsBounded bytes (unary.HIn a b) = HasRange (codes "H") a b bytes

-- the bytes, all of them, are a spelling of this kind of token: a sign, a word, or a bounded operator
abbrev pub Spells : List ℕ → TokenKind → Type 0
Spells bytes kind =
    (sign bytes ≡ Some kind) ⊎ ((IsWord bytes × (word_kind bytes ≡ kind)) ⊎ ((word : UnaryWord) × (kind ≡ kinds.Unary word) × IsBounded bytes word))

-- the numbers of a bounded operator are at most 255, and in order
abbrev pub HasNumbers : UnaryWord → Type 0
HasNumbers unary.X = Unit {0}
HasNumbers unary.WX = Unit {0}
HasNumbers unary.F = Unit {0}
HasNumbers unary.G = Unit {0}
HasNumbers unary.Y = Unit {0}
HasNumbers unary.Z = Unit {0}
HasNumbers unary.O = Unit {0}
HasNumbers unary.H = Unit {0}
HasNumbers (unary.XTimes n) = n ≤ 255
HasNumbers (unary.YTimes n) = n ≤ 255
HasNumbers (unary.FIn a b) = (a ≤ b) × (b ≤ 255)
HasNumbers (unary.GIn a b) = (a ≤ b) × (b ≤ 255)
HasNumbers (unary.OIn a b) = (a ≤ b) × (b ≤ 255)
HasNumbers (unary.HIn a b) = (a ≤ b) × (b ≤ 255)

-- of the text bytes ++ rest, bytes are the longest spelling at its front
pub record IsLongest (kind : TokenKind) (bytes rest : List ℕ) : Type 0 where
  pub spells : Spells bytes kind
  pub longest : (more after : List ℕ) (other : TokenKind) → rest ≡ more ++ after → 0 < length more → Spells (bytes ++ more) other → ⊥

-- no token begins the text
abbrev pub BeginsNone : List ℕ → Type 0
BeginsNone text = (bytes rest : List ℕ) (kind : TokenKind) → text ≡ bytes ++ rest → Spells bytes kind → ⊥

-- the first token of the text, which stands at a place of a longer one, and what stands behind the token
pub record IsNext (place : ℕ) (text : List ℕ) (token : Token) (rest : List ℕ) : Type 0 where
  pub white : List ℕ
  pub bytes : List ℕ
  pub whole : text ≡ white ++ (bytes ++ rest)
  pub blank : AreWhite white
  pub start : token.start ≡ place + length white
  pub end : token.end ≡ token.start + length bytes
  pub longest : IsLongest token.kind bytes rest

-- the text has a first byte, which is no white space
abbrev pub BeginsNoWhite : List ℕ → Type 0
BeginsNoWhite [] = ⊥
BeginsNoWhite (b ∷ bytes) = is_white b ≡ false

-- the first byte that is no white space begins no token
pub record IsLexFault (place : ℕ) (text : List ℕ) (byte : ℕ) : Type 0 where
  pub white : List ℕ
  pub rest : List ℕ
  pub whole : text ≡ white ++ rest
  pub blank : AreWhite white
  pub faulty : BeginsNoWhite rest
  pub none : BeginsNone rest
  pub at : byte ≡ place + length white

-- how a text ends: with white space, or at a byte that begins no token
abbrev pub Ends : ℕ → List ℕ → Option ℕ → Type 0
Ends place text None = AreWhite text
Ends place text (Some byte) = IsLexFault place text byte

-- the tokens of the text that stands at a place, up to the first fault, if there is one
abbrev pub AreTokens : ℕ → List ℕ → List Token → Option ℕ → Type 0
AreTokens place text [] fault = Ends place text fault
AreTokens place text (t ∷ ts) fault = (rest : List ℕ) × IsNext place text t rest × AreTokens t.end rest ts fault

-- the first byte of the text that is no white space and begins no token
abbrev pub IsLexicalFault : List ℕ → ℕ → Type 0
IsLexicalFault text byte = (before : List Token) × AreTokens 0 text before (Some byte)

-- why a text has no tokens
abbrev pub IsLexRefusal : List ℕ → LexRefused → Type 0
IsLexRefusal text (refused.Lexical byte) = IsLexicalFault text byte
IsLexRefusal text refused.NoMemory = Unit {0}

-- the token is a part of the text, and its bytes spell its kind
pub record IsPartOf (text : List ℕ) (token : Token) : Type 0 where
  pub order : token.start < token.end
  pub within : token.end ≤ length text
  pub spells : Spells (slice_range text token.start token.end) token.kind

-- what a cursor still has to read: the text from a place on
pub record Remaining : Type 0 where
  pub place : ℕ
  pub rest : List ℕ

-- what a call of the cursor answers, and what it leaves to read: nothing behind the end and behind a fault
abbrev pub Advances : Remaining → Option (Result Token LexFault) → Remaining → Type 0
Advances old None new = AreWhite old.rest × (new.rest ≡ [])
Advances old (Some (Err f)) new = IsLexFault old.place old.rest f.byte × (new.rest ≡ [])
Advances old (Some (Ok t)) new = IsNext old.place old.rest t new.rest × (new.place ≡ t.end)
