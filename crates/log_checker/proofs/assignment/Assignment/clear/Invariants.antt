use Rattle.std.proofs.Common.{◌≡◌, length}
use Rattle.log_checker.specs.Values.{AreSet}
use Rattle.log_checker.proofs.assignment.Assignment.clear.Given as goal

abbrev pub invariant-undo : goal.invariant-undo
invariant-undo l = AreSet l.self-inside.values.items l.self-inside.trail.items l.self-inside.used
    × (length l.self-inside.values.items ≡ length l.initial.self-inside.values.items)

abbrev pub decreases-undo : goal.decreases-undo
decreases-undo l = l.self-inside.used
