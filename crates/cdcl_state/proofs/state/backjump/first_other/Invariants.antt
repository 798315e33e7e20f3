use Rattle.std.proofs.Common.{◌≡◌, ℕ, ◌<◌, None, Contains, get_or}
use Rattle.cdcl_trail.specs.Trail.{blank_entry, literal_at}
use Rattle.cdcl_state.proofs.state.backjump.first_other.Given as goal

abbrev pub invariant-loop-place : goal.invariant-loop-place
invariant-loop-place l = (k : ℕ) → k < l.place → (get_or l.assigned.trail k blank_entry).reason ≡ None → Contains l.kept (literal_at l.assigned.trail k)
