use Rattle.std.proofs.Common.{ℕ, ◌<◌, [], get_or, All}
use Rattle.cnf_base.specs.Known.{IsKnown}
use Rattle.claim_check.proofs.layer.first_foreign.Given as goal

abbrev pub invariant-claims : goal.invariant-claims
invariant-claims l = (q : ℕ) → q < l.place → All (IsKnown l.width) (get_or l.claims q [])
