use Rattle.std.proofs.Common.{◌≡◌}
use Rattle.clause_index.specs.ByNumber.{gates_before}
use Rattle.clause_index.proofs.samples.gates_between.Given as goal

abbrev pub invariant-loop-k : goal.invariant-loop-k
invariant-loop-k l = l.total ≡ gates_before l.entries l.k
