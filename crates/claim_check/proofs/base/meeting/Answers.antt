use Rattle.std.proofs.Common.{arith}
use Rattle.claim_check.proofs.Eventual.{as_many}
use Rattle.claim_check.proofs.base.meeting.Goals as goal

pub returns-then-index-eventualities : goal.returns-then-index-eventualities
returns-then-index-eventualities c =
    λ lt. omega (arith, lt, c.if-index-eventualities.true, as_many c.args.closure.now.formula c.eventualities.result.now c.eventualities.ensures.numbers)
