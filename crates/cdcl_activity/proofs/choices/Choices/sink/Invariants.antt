use Rattle.std.proofs.Common.{◌≡◌, ◌↔◌, ℕ, length}
use Rattle.cdcl_activity.specs.Order.{IsWaiting}
use Rattle.cdcl_activity.proofs.choices.Choices.sink.Given as goal

abbrev pub invariant-down : goal.invariant-down
invariant-down l = record {
  size : length l.self.order.places ≡ length l.initial.self.order.places;
  held : l.self.held ≡ l.initial.self.held;
  waiting : (x : ℕ) → IsWaiting l.self.order x ↔ IsWaiting l.initial.self.order x;
}
