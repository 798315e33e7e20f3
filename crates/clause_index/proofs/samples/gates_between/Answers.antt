use Rattle.std.proofs.Common.{arith}
use Rattle.clause_index.proofs.Gates.{gates_few}
use Rattle.clause_index.proofs.samples.gates_between.Goals as goal

pub overflow_add-total : goal.overflow_add-total
overflow_add-total c =
    omega (arith, gates_few c.args.entries.now c.loop-k.k, c.loop-k.invariant, c.gate_size.ensures.small, c.loop-k-test.true, c.requires.within, c.requires.few)
