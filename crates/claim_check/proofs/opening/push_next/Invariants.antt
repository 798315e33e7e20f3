use Rattle.std.proofs.Common.{◌≡◌, map, take}
use Rattle.claims.specs.Certificate.{at_next as moved_on}
use Rattle.claim_check.proofs.opening.push_next.Given as goal

abbrev pub invariant-literals : goal.invariant-literals
invariant-literals l = l.moved.items ≡ map (moved_on l.width) (take l.literal-index l.claim)
