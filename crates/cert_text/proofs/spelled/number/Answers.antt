use Rattle.std.proofs.Common.{arith}
use Rattle.cert_text.proofs.Slices.{passed_more, number_is}
use Rattle.cert_text.proofs.spelled.number.Goals as goal

pub loop-len-preserved : goal.loop-len-preserved
loop-len-preserved c = passed_more c.args.digits.now c.loop-len.value c.loop-len.len c.loop-len.invariant c.loop-len-test.true c.if-digits-len-ne32.true

pub returns-else-digits-len-ne32-clause-value : goal.returns-else-digits-len-ne32-clause-value
returns-else-digits-len-ne32-clause-value c =
    number_is c.args.digits.now c.loop-len.value c.loop-len.len c.loop-len.invariant (λ low. c.if-digits-len-ne32.false)

pub returns-after-loop-len-clause-value : goal.returns-after-loop-len-clause-value
returns-after-loop-len-clause-value c =
    number_is c.args.digits.now c.loop-len.value c.loop-len.len c.loop-len.invariant (λ low. absurd (omega (arith, low, c.loop-len-test.false)))
