use Rattle.std.proofs.Common.{ℕ, ◌<◌}
use Rattle.claim_check.specs.Bases.{IsHeld}
use Rattle.claim_check.proofs.targets.first_missed.Given as goal

abbrev pub invariant-claims : goal.invariant-claims
invariant-claims l = (q : ℕ) → q < l.place → IsHeld l.lines l.claims l.targets l.others q
