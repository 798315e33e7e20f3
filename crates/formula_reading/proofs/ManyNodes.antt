-- A text with tokens that have no fault reads as a formula, and its nodes are counted by its tokens.
use Rattle.std.proofs.Common.{◌≡◌, ℕ, ◌<◌, List, Option, Some, None, ◌↔◌, refl}
use Rattle.ltl_lexer.specs.declared.token.Token.{Token}
use Rattle.ltl_lexer.specs.Tokens.{AreTokens}
use Rattle.ltl_parser.specs.Grammar.{Symbol, Reads, fault, node_count}
use Rattle.ltl_parser.specs.Text.{symbols, grammar_fault, byte_at, ReadsText, NodesOf}
use Rattle.ltl_syntax.specs.Formula.{Formula}
use Rattle.ltl_syntax.specs.Size.{formula_size}
use Rattle.formula_reading.specs.Reading.{HasManyNodes}

no_place : (text : List ℕ) (ts : List Token) (place : Option ℕ) → byte_at text ts place ≡ None → place ≡ None
no_place text ts None e = refl
no_place text ts (Some i) e = absurd (cc)

pub nodes_are_many : (text : List ℕ) (ts : List Token) (count : ℕ) → ((ss : List Symbol) → ((f : Formula) × Reads ss f) ↔ (fault ss ≡ None))
    → ((t : List ℕ) (m n : ℕ) → NodesOf t m → NodesOf t n → m ≡ n) → ((t : List ℕ) (f : Formula) → ReadsText t f → NodesOf t (formula_size f))
    → AreTokens 0 text ts None → grammar_fault text ts ≡ None → count ≡ node_count (symbols text ts) → 16384 < count → HasManyNodes text count
nodes_are_many text ts count read one nodes lexed clean counted many =
    let found = (read (symbols text ts)).1 (no_place text ts (fault (symbols text ts)) clean) in
    let reads : ReadsText text found.0 = record { tokens = ts; lexed = lexed; reads = found.1 } in
    (found.0, reads, one text count (formula_size found.0) (record { tokens = ts; lexed = lexed; count = counted }) (nodes text found.0 reads), many)
