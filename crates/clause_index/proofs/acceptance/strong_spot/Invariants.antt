use Rattle.std.proofs.Common.{◌≡◌, ◌+◌, ◌-◌, ◌≤◌, length}
use Rattle.ltl_closure.specs.Closure.{nexts}
use Rattle.clause_index.specs.ByNumber.{strong_before}
use Rattle.clause_index.proofs.acceptance.strong_spot.Given as goal

abbrev pub invariant-walk : goal.invariant-walk
invariant-walk l = (l.before ≤ length (nexts l.closure.formula)) × (strong_before (nexts l.closure.formula) l.before + l.left ≡ l.index)

abbrev pub decreases-walk : goal.decreases-walk
decreases-walk l = length (nexts l.closure.formula) - l.before
