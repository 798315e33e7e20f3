use Rattle.std.proofs.Common.{◌≢◌, ℕ, ◌<◌, ◌≤◌, None, length, get_or}
use Rattle.cdcl_trail.specs.Trail.{blank_entry}
use Rattle.cdcl_state.proofs.state.State.top.Given as goal

abbrev pub invariant-down : goal.invariant-down
invariant-down l =
    record { within : l.end ≤ length l.self.trail; forced : (k : ℕ) → l.end ≤ k → k < length l.self.trail → (get_or l.self.trail k blank_entry).reason ≢ None }

abbrev pub decreases-down : goal.decreases-down
decreases-down l = l.end
