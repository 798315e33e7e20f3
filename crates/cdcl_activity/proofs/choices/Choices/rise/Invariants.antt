use Rattle.std.proofs.Common.{◌≡◌, ◌↔◌, ◌<◌, ℕ, length}
use Rattle.cdcl_activity.specs.Order.{IsWaiting}
use Rattle.cdcl_activity.proofs.choices.Choices.rise.Given as goal

abbrev pub invariant-up : goal.invariant-up
invariant-up l = record {
  low : l.at < l.self.order.count;
  size : length l.self.order.places ≡ length l.initial.self.order.places;
  held : l.self.held ≡ l.initial.self.held;
  waiting : (x : ℕ) → IsWaiting l.self.order x ↔ IsWaiting l.initial.self.order x;
}
