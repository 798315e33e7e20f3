use Rattle.std.proofs.Common.{◌-◌, ◌<◌, ◌≤◌, ◌+◌}
use Rattle.clause_index.specs.Counts.{before_step}
use Rattle.clause_index.proofs.place.step_of.Given as goal

abbrev pub invariant-halve : goal.invariant-halve
invariant-halve l =
    (l.low < l.high) × (l.high ≤ l.depth + 1) × (before_step l.sizes.kind l.sizes l.low ≤ l.index) × (l.index < before_step l.sizes.kind l.sizes l.high)

abbrev pub decreases-halve : goal.decreases-halve
decreases-halve l = l.high - l.low
