use Rattle.std.proofs.Common.{◌≡◌, ◌++◌, map, take}
use Rattle.claims.specs.Certificate.{at_next as moved_on}
use Rattle.claim_check.proofs.opening.open_next.Given as goal

abbrev pub invariant-claims : goal.invariant-claims
invariant-claims l = l.out ≡ l.fn.out ++ map (map (moved_on l.width)) (take l.number l.claims)
