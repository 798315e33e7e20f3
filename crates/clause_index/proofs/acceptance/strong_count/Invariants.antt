use Rattle.std.proofs.Common.{◌≡◌}
use Rattle.ltl_closure.specs.Closure.{nexts}
use Rattle.clause_index.specs.ByNumber.{strong_before}
use Rattle.clause_index.proofs.acceptance.strong_count.Given as goal

abbrev pub invariant-loop-k : goal.invariant-loop-k
invariant-loop-k l = l.count ≡ strong_before (nexts l.closure.formula) l.k
