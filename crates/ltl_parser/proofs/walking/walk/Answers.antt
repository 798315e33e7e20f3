use Rattle.std.proofs.Common.{◌≡◌, ◌∷◌, ◌<◌, ◌∙◌, ap, ℕ, List, length, get_or, drop, arith, ◌+◌}
use Rattle.std.specs.Prelude.{slice_range}
use Rattle.ltl_lexer.specs.declared.token.TokenKind.TheVariants as kinds
use Rattle.ltl_lexer.specs.declared.token.Token.{Token}
use Rattle.ltl_parser.specs.declared.meaning.Meaning.{Meaning}
use Rattle.ltl_parser.specs.Text.{symbol, symbols}
use Rattle.ltl_parser.specs.Standing.{symbol_meant}
use Rattle.ltl_parser.proofs.Running.{next_symbol}
use Rattle.ltl_parser.proofs.Faults.{walking_next, walking_fault}
use Rattle.ltl_parser.proofs.walking.walk.Goals as goal

abbrev none : Token
none = record { kind = kinds.True; start = 0; end = 0 }

abbrev bytes_at : List ℕ → List Token → ℕ → List ℕ
bytes_at text ts i = slice_range text (get_or ts i none).start (get_or ts i none).end

next : (text : List ℕ) (ts : List Token) (i : ℕ) (m : Meaning)
    → i < length ts → ((bytes : List ℕ) → symbol (get_or ts i none).kind bytes ≡ symbol_meant m bytes)
    → drop i (symbols text ts) ≡ symbol_meant m (bytes_at text ts i) ∷ drop (i + 1) (symbols text ts)
next text ts i m lt e = next_symbol text ts i none lt ∙ ap (λ z. z ∷ drop (i + 1) (symbols text ts)) (e (bytes_at text ts i))

pub returns-in_default : goal.returns-in_default
returns-in_default c text =
    let ts = c.args.tokens.now in
    let i = c.loop-i.i in
    let m = c.meant-meaning.result in (
      walking_fault (symbols text ts) i c.loop-i.wanted c.loop-i.depth c.loop-i.nodes (drop (i + 1) (symbols text ts)) (symbol_meant m (bytes_at text ts i))
          (next text ts i m (omega arith) c.meant-meaning.ensures.symbol) (c.in_default.ensures (bytes_at text ts i) (drop (i + 1) (symbols text ts)))
          (c.loop-i.invariant.0 text),
      omega arith,
    )

pub loop-i-preserved : goal.loop-i-preserved
loop-i-preserved c = (
  λ text.
      let ts = c.args.tokens.now in
      let i = c.loop-i.i in
      let m = c.meant-meaning.result in
      walking_next (symbols text ts) i c.loop-i.wanted c.in-Some.next c.loop-i.depth c.in-Some.still_open c.loop-i.nodes c.weight-nodes.result
      (symbol_meant m (bytes_at text ts i)) (next text ts i m (omega arith) c.meant-meaning.ensures.symbol)
      (λ rest. c.in-Some.ensures.0 (bytes_at text ts i) rest) (c.weight-nodes.ensures.value (bytes_at text ts i)) (c.loop-i.invariant.0 text),
  (let s = c.weight-nodes.ensures.small in omega arith),
  (let s = c.in-Some.ensures.1 in omega arith),
)
