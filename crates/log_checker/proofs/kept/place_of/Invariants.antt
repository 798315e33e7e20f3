use Rattle.std.proofs.Common.{ℕ, ◌-◌, ◌<◌, ◌≤◌, length}
use Rattle.log_checker.specs.Kept.{number_at}
use Rattle.log_checker.proofs.kept.place_of.Given as goal

abbrev pub invariant-halves : goal.invariant-halves
invariant-halves l =
    (l.low ≤ l.high) × (l.high ≤ length l.entries.items)
    × ((i : ℕ) → i < l.low → number_at l.entries.items i < l.number)
    × ((i : ℕ) → l.high ≤ i → i < length l.entries.items → l.number ≤ number_at l.entries.items i)

abbrev pub decreases-halves : goal.decreases-halves
decreases-halves l = l.high - l.low
