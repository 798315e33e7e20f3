use Rattle.std.proofs.Common.{◌-◌, ◌<◌, ◌≤◌, slice_index_or}
use Rattle.clause_index.proofs.samples.Samples.sample_of.Given as goal

abbrev pub invariant-halve : goal.invariant-halve
invariant-halve l = (l.low < l.high) × (l.high ≤ 256) × (slice_index_or l.self.before l.low 0 ≤ l.index)

abbrev pub decreases-halve : goal.decreases-halve
decreases-halve l = l.high - l.low
