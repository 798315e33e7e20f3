use Rattle.std.proofs.Common.{arith}
use Rattle.clause_index.proofs.Gates.{gates_few}
use Rattle.clause_index.proofs.gate.gates_count.Goals as goal

pub overflow_add-count : goal.overflow_add-count
overflow_add-count c = omega (arith, gates_few c.args.entries.now c.loop-k.k, c.loop-k.invariant, c.gate_size.ensures.small, c.loop-k-test.true, c.requires)
