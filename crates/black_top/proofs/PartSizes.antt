-- How large the formula of a text can be, and where the faults of a text lie.
use Rattle.std.proofs.Common.{◌≡◌, ◌∙◌, ℕ, zero, suc, ◌+◌, ◌*◌, ◌<◌, ◌≤◌, List, [], ◌∷◌, ◌++◌, length, get_or, Option, Some, None, refl, ap, arith}
use Rattle.std.proofs.Common.{length-append}
use Rattle.std.specs.Prelude.{slice_range}
use Rattle.ltl_syntax.specs.Formula.{Formula}
use Rattle.ltl_syntax.specs.Size.{formula_size}
use Rattle.ltl_lexer.specs.declared.token.Token.{Token}
use Rattle.ltl_lexer.specs.declared.token.TokenKind.{TokenKind}
use Rattle.ltl_lexer.specs.declared.token.TokenKind.TheVariants as kinds
use Rattle.ltl_lexer.specs.declared.token.UnaryWord.{UnaryWord}
use Rattle.ltl_lexer.specs.declared.token.UnaryWord.TheVariants as words
use Rattle.ltl_lexer.specs.Tokens.{AreTokens, HasNumbers, IsPartOf, IsLexicalFault, Spells}
use Rattle.ltl_lexer.proofs.Words.{numbers_fit}
use Rattle.ltl_lexer.proofs.Places.{parts_of_text, no_more_tokens}
use Rattle.ltl_parser.specs.Grammar.{weight, node_count, fault}
use Rattle.ltl_parser.specs.Text.{symbol, symbols, byte_of, byte_at, ReadsText, IsGrammarFault}
use Rattle.ltl_parser.proofs.Readings.{nodes_of_text}
use Rattle.report.specs.declared.fault.Fault.{Fault}
use Rattle.program_input.specs.Reading.{RefusesPart, too_long, lexical, grammar, many_nodes}
use Rattle.black_top.specs.System as systems
use Rattle.black_top.specs.SystemInner.{HasSmallByte, IsPartRead, refused_part}

-- ---- sizes

word_small : (word : UnaryWord) (bytes : List ℕ) → HasNumbers word → weight (symbol (kinds.Unary word) bytes) ≤ 255
word_small (words.XTimes n) bytes h = omega (arith, h)
word_small (words.YTimes n) bytes h = omega (arith, h)
word_small (words.FIn a b) bytes h = omega (arith, h.1)
word_small (words.GIn a b) bytes h = omega (arith, h.1)
word_small (words.OIn a b) bytes h = omega (arith, h.1)
word_small (words.HIn a b) bytes h = omega (arith, h.1)
word_small other bytes h = omega arith

kind_small : (kind : TokenKind) (bytes : List ℕ) → Spells bytes kind → weight (symbol kind bytes) ≤ 255
kind_small (kinds.Unary word) bytes s = word_small word bytes (numbers_fit bytes (kinds.Unary word) word s refl)
kind_small other bytes s = omega arith

tokens_small : (text : List ℕ) (ts : List Token) → ((i : ℕ) (d : Token) → i < length ts → IsPartOf text (get_or ts i d))
    → node_count (symbols text ts) ≤ 255 * length ts
tokens_small text [] all = omega arith
tokens_small text (t ∷ ts) all =
    let here = kind_small t.kind (slice_range text t.start t.end) (all 0 t (omega arith)).spells in
    omega (arith, here, tokens_small text ts (λ i d lt. all (suc i) d (omega arith)))

-- a formula is at most 255 times as large as its text is long
pub read_small : (text : List ℕ) (f : Formula) → ReadsText text f → formula_size f ≤ 255 * length text
read_small text f r =
    let nodes = nodes_of_text text f r in
    let few = no_more_tokens 0 text nodes.tokens None nodes.lexed in
    let small = tokens_small text nodes.tokens (parts_of_text text nodes.tokens None nodes.lexed) in
    omega (arith, nodes.count, few, small)

-- ---- bytes

lexical_from : (place : ℕ) (text : List ℕ) (ts : List Token) (byte : ℕ) → AreTokens place text ts (Some byte) → byte ≤ place + length text
lexical_from place text [] byte a = let l = ap length a.whole ∙ length-append a.white a.rest in omega (arith, a.at, l)
lexical_from place text (t ∷ ts) byte (rest, next, more) =
    let l = ap length next.whole ∙ length-append next.white (next.bytes ++ rest) in
    let m = length-append next.bytes rest in
    omega (arith, lexical_from t.end rest ts byte more, next.start, next.end, l, m)

byte_within : (text : List ℕ) (ts : List Token) → ((i : ℕ) (d : Token) → i < length ts → IsPartOf text (get_or ts i d)) → (i : ℕ)
    → byte_of ts (length text) i ≤ length text
byte_within text [] all i = omega arith
byte_within text (t ∷ ts) all zero = let p = all 0 t (omega arith) in omega (arith, p.order, p.within)
byte_within text (t ∷ ts) all (suc i) = byte_within text ts (λ j d lt. all (suc j) d (omega arith)) i

place_within : (text : List ℕ) (ts : List Token) → AreTokens 0 text ts None → (place : Option ℕ) (byte : ℕ) → byte_at text ts place ≡ Some byte
    → byte ≤ length text
place_within text ts lexed None byte e = absurd (cc)
place_within text ts lexed (Some i) byte e =
    let same : byte_of ts (length text) i ≡ byte = cc in
    let low = byte_within text ts (parts_of_text text ts None lexed) i in
    omega (arith, same, low)

pub lexical_within : (text : List ℕ) (byte : ℕ) → IsLexicalFault text byte → byte ≤ length text
lexical_within text byte (before, a) = let h = lexical_from 0 text before byte a in omega (arith, h)

pub grammar_within : (text : List ℕ) (byte : ℕ) → IsGrammarFault text byte → byte ≤ length text
grammar_within text byte h = place_within text h.tokens h.lexed (fault (symbols text h.tokens)) byte h.fault

-- the byte of a part's fault fits
pub small_byte : (part : List ℕ) (f : Fault) → length part ≤ 1048576 → RefusesPart part f → HasSmallByte f
small_byte part f short (too_long long) = tt
small_byte part f short (lexical byte s h) = omega (arith, lexical_within part byte h, short)
small_byte part f short (grammar byte s h) = omega (arith, grammar_within part byte h, short)
small_byte part f short (many_nodes count s h) = tt

-- a refused part is a formula that is too large, or a fault at its byte of the input
pub refused_read : (part : List ℕ) (place : ℕ) (f : Fault) → length part ≤ 1048576 → RefusesPart part f → IsPartRead part place (refused_part f place)
refused_read part place f short (too_long long) = absurd (omega (arith, short, long))
refused_read part place f short (lexical byte s h) = systems.lexical byte h
refused_read part place f short (grammar byte s h) = systems.grammar byte h
refused_read part place f short (many_nodes count s h) =
    let small = read_small part h.0 h.1 in
    let same = h.2 in
    let more = h.3 in
    (h.0, h.1, record { size = same; small = omega (arith, same, small, short); held = omega (arith, same, more) })
