use Rattle.std.proofs.Common.{ℕ, ◌<◌, Contains, get_or, ◌++◌}
use Rattle.cnf_base.specs.declared.literal.Literal.{Literal}
use Rattle.claim_check.proofs.targets.are_among.Given as goal

abbrev pub invariant-literals : goal.invariant-literals
invariant-literals l = (k : ℕ) → k < l.literal-index → (d : Literal) → Contains (l.claim ++ l.others) (get_or l.literals k d)
