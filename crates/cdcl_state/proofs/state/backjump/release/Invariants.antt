use Rattle.std.proofs.Common.{◌≡◌, ℕ, ◌≤◌, ◌⊎◌, ◌↔◌, length}
use Rattle.cdcl_activity.specs.Order.{IsWaiting}
use Rattle.cdcl_state.specs.Turns.{IsReleased}
use Rattle.cdcl_state.proofs.state.backjump.release.Given as goal

abbrev pub invariant-loop-place : goal.invariant-loop-place
invariant-loop-place l = record {
  size : length l.choices.order.places ≡ length l.initial.choices.order.places;
  held : l.choices.held ≡ l.initial.choices.held;
  at : (l.count ≡ l.place) ⊎ (l.place ≤ length l.assigned.trail);
  waiting : (x : ℕ) → IsWaiting l.choices.order x ↔ (IsReleased l.assigned.trail l.count l.place l.initial.choices x ⊎ IsWaiting l.initial.choices.order x);
}
