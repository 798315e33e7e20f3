use Rattle.std.proofs.Common.{◌≤◌, length}
use Rattle.cdcl_propagate.specs.Visit.{AreFalseFrom}
use Rattle.cdcl_propagate.proofs.visit.find.Given as goal

abbrev pub invariant-down : goal.invariant-down
invariant-down l = record { within : l.end ≤ length l.clause; rest : AreFalseFrom l.assigned.trail l.clause l.end (length l.clause) }

abbrev pub decreases-down : goal.decreases-down
decreases-down l = l.end
