use Rattle.std.proofs.Common.{◌≡◌, ◌+◌, ◌-◌, ◌≤◌, length}
use Rattle.clause_index.specs.ByNumber.{gates_before}
use Rattle.clause_index.proofs.gate.gate_spot.Given as goal

abbrev pub invariant-walk : goal.invariant-walk
invariant-walk l = (l.before ≤ length l.entries) × (gates_before l.entries l.before + l.left ≡ l.index)

abbrev pub decreases-walk : goal.decreases-walk
decreases-walk l = length l.entries - l.before
