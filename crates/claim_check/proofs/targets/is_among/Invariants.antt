use Rattle.std.proofs.Common.{◌≡◌, ℕ, ◌<◌, get_or}
use Rattle.cnf_base.specs.declared.literal.Literal.{Literal}
use Rattle.claim_check.proofs.targets.is_among.Given as goal

abbrev pub invariant-claim : goal.invariant-claim
invariant-claim l = (k : ℕ) → k < l.own-index → (d : Literal) → get_or l.claim k d ≡ l.literal → ⊥

abbrev pub invariant-others : goal.invariant-others
invariant-others l = (k : ℕ) → k < l.other-index → (d : Literal) → get_or l.others k d ≡ l.literal → ⊥
