use Rattle.std.proofs.Common.{arith}
use Rattle.command_words.proofs.Numbers.{digits_more, value_more, next_fits, no_digit, is_digit}
use Rattle.command_words.proofs.decimal.decimal_number.Goals as goal

pub returns-then-not-is_ascii_digit : goal.returns-then-not-is_ascii_digit
returns-then-not-is_ascii_digit c n =
    no_digit c.args.digits.now c.args.range.digits c.args.range.low c.args.range.high c.loop-digit.digit-index n c.is_ascii_digit.result c.loop-digit-test.true
    c.is_ascii_digit.ensures.cases c.if-not-is_ascii_digit.true

pub overflow_mul-number : goal.overflow_mul-number
overflow_mul-number c =
    let range = is_digit _ c.is_ascii_digit.result c.is_ascii_digit.ensures.cases c.if-not-is_ascii_digit.false in
    let fits = next_fits c.args.digits.now c.loop-digit.digit-index c.loop-digit.number c.loop-digit-test.true
    (omega (arith, c.requires, c.if-digits-range.false)) c.loop-digit.invariant.0 c.loop-digit.invariant.1 range in
    omega (arith, fits.0)

pub overflow_add-number : goal.overflow_add-number
overflow_add-number c =
    let range = is_digit _ c.is_ascii_digit.result c.is_ascii_digit.ensures.cases c.if-not-is_ascii_digit.false in
    let fits = next_fits c.args.digits.now c.loop-digit.digit-index c.loop-digit.number c.loop-digit-test.true
    (omega (arith, c.requires, c.if-digits-range.false)) c.loop-digit.invariant.0 c.loop-digit.invariant.1 range in
    omega (arith, fits.1)

pub loop-digit-preserved : goal.loop-digit-preserved
loop-digit-preserved c =
    let range = is_digit _ c.is_ascii_digit.result c.is_ascii_digit.ensures.cases c.if-not-is_ascii_digit.false in (
      digits_more c.args.digits.now c.loop-digit.digit-index c.loop-digit-test.true c.loop-digit.invariant.0 range,
      value_more c.args.digits.now c.loop-digit.digit-index c.loop-digit.number c.loop-digit-test.true c.loop-digit.invariant.1 range,
    )
