use Rattle.std.proofs.Common.{take, drop, sym, subst, arith}
use Rattle.ltl_lexer.specs.Tokens.{IsLongest}
use Rattle.ltl_lexer.specs.Scanning.{FrontWord}
use Rattle.ltl_lexer.proofs.Signs.{sign_token, bounded_token, word_token, none_token}
use Rattle.ltl_lexer.proofs.scan.front_token.Goals as goal

pub returns-in-Some-clause-some : goal.returns-in-Some-clause-some
returns-in-Some-clause-some c = sign_token c.args.text.now c.in-Some.kind c.in-Some.len (sym c.in-Some.ensures)

pub returns-in-Some-front_bounded-clause-some : goal.returns-in-Some-front_bounded-clause-some
returns-in-Some-front_bounded-clause-some c =
    bounded_token c.args.text.now c.in-Some-front_bounded.word c.in-Some-front_bounded.len (sym c.in-Some-front_bounded.ensures)

pub returns-then-len-eq0-clause-none : goal.returns-then-len-eq0-clause-none
returns-then-len-eq0-clause-none c = none_token c.args.text.now (sym c.in_default.ensures) (sym c.in_default-front_bounded.ensures)
    (subst (FrontWord c.args.text.now) c.if-len-eq0.true c.front_word-len.ensures)

pub returns-clause-some : goal.returns-clause-some
returns-clause-some c =
    let w = word_token c.args.text.now c.front_word-len.result (sym c.in_default-front_bounded.ensures) c.front_word-len.ensures (omega arith) in (
      c.front_word-len.ensures.within,
      subst (λ k. IsLongest k (take c.front_word-len.result c.args.text.now) (drop c.front_word-len.result c.args.text.now)) (sym c.word_kind.ensures) w,
    )
