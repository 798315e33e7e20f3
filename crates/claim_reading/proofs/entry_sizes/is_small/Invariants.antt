use Rattle.std.proofs.Common.{◌≡◌, ◌≤◌, take}
use Rattle.claim_reading.specs.Sizes.{claim_size}
use Rattle.claim_reading.proofs.entry_sizes.is_small.Given as goal

abbrev pub invariant-literals : goal.invariant-literals
invariant-literals l = record { total : l.total ≡ claim_size l.sizes.items (take l.literal-index l.claim); low : l.total ≤ 16385 }
