use Rattle.std.proofs.Common.{◌≡◌, ◌++◌, take}
use Rattle.claim_check.proofs.layer.push_all.Given as goal

abbrev pub invariant-claims : goal.invariant-claims
invariant-claims l = l.out ≡ l.fn.out ++ take l.number l.claims
