use Rattle.std.proofs.Common.{ℕ, ◌<◌}
use Rattle.claim_check.specs.Bases.{IsHeldTwice}
use Rattle.claim_check.proofs.targets.first_missed_twice.Given as goal

abbrev pub invariant-claims : goal.invariant-claims
invariant-claims l = (q : ℕ) → q < l.place → IsHeldTwice l.lines l.claims l.targets l.some l.others q
