use Rattle.std.proofs.Common.{◌≡◌, ℕ, ◌<◌, length, get_or}
use Rattle.core_extract.proofs.task.sizes_of.Given as goal

abbrev pub invariant-places : goal.invariant-places
invariant-places l = record {
  long : length l.sizes.items ≡ l.place;
  each : (n : ℕ) → n < l.place → get_or l.sizes.items n 0 ≡ get_or l.by_node.items (get_or l.order.items n 0) 0;
}
