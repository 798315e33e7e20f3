use Rattle.std.proofs.Common.{sym, arith}
use Rattle.demand.proofs.ValueLists.{true_at, false_at}
use Rattle.demand.proofs.row.are_false.Goals as goal

pub returns-then-value : goal.returns-then-value
returns-then-value c = sym (true_at c.args.values.now c.loop-value.value-index c.if-value.true)

pub returns : goal.returns
returns c = sym (false_at c.args.values.now (λ i lt. c.loop-value.invariant i (omega arith)))
