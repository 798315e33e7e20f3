use Rattle.std.proofs.Common.{arith}
use Rattle.ltl_syntax.proofs.Under.{size_more}
use Rattle.ltl_syntax.proofs.marks.sum_of_sizes.Goals as goal

pub sizes-preserved : goal.sizes-preserved
sizes-preserved c = record {
  sum = size_more c.args.table.now c.args.numbers.now c.sizes.index c.node.result c.sizes.sum c.size-sum.result
      (omega (arith, c.sizes-test.true, c.sizes.auto.index-end)) c.node.ensures.node c.size-sum.ensures.size c.sizes.invariant.sum;
  small = omega (arith, c.sizes.invariant.small, c.size-sum.ensures.few);
}
