use Rattle.std.proofs.Common.{ℕ, ◌<◌}
use Rattle.cert_check.specs.Lawful.{IsGoodTarget}
use Rattle.cert_check.proofs.together.first_bad_target.Given as goal

abbrev pub invariant-targets : goal.invariant-targets
invariant-targets l = (k : ℕ) → k < l.index → IsGoodTarget l.closure.formula l.view k
