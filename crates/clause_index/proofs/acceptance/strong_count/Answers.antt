use Rattle.std.proofs.Common.{arith}
use Rattle.ltl_closure.specs.Closure.{nexts}
use Rattle.clause_index.proofs.Linked.{count_same}
use Rattle.clause_index.proofs.Strong.{strong_few}
use Rattle.clause_index.proofs.acceptance.strong_count.Goals as goal

pub overflow_add-count : goal.overflow_add-count
overflow_add-count c =
    let f = c.args.closure.now.formula in
    omega (
      arith,
      strong_few f (nexts f) c.loop-k.k,
      c.loop-k.invariant,
      c.strong_size.ensures.small,
      c.loop-k-test.true,
      c.requires,
      count_same f (nexts f) c.nexts-k-end.result.now c.nexts-k-end.ensures.numbers,
    )
