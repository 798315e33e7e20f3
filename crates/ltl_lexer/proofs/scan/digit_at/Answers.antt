use Rattle.std.proofs.Common.{sym, ◌∙◌, arith}
use Rattle.ltl_lexer.proofs.Numbers.{digit_here, no_digit_here, no_digit_behind}
use Rattle.ltl_lexer.proofs.scan.digit_at.Goals as goal

pub returns-then-place-text-clause-value : goal.returns-then-place-text-clause-value
returns-then-place-text-clause-value c = no_digit_behind c.args.text.now c.args.place (omega arith)

pub returns-then-not-is_ascii_digit-clause-value :
    goal.returns-then-not-is_ascii_digit-clause-value
returns-then-not-is_ascii_digit-clause-value c =
    no_digit_here c.args.text.now c.args.place (omega arith) (sym c.is_ascii_digit.ensures.value ∙ c.if-not-is_ascii_digit.true)

pub returns-clause-value : goal.returns-clause-value
returns-clause-value c = digit_here c.args.text.now c.args.place (omega arith) (sym c.is_ascii_digit.ensures.value ∙ c.if-not-is_ascii_digit.false)
