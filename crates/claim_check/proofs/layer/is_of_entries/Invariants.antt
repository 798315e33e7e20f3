use Rattle.std.proofs.Common.{ℕ, ◌<◌, get_or}
use Rattle.cnf_base.specs.declared.literal.Literal.{Literal}
use Rattle.cnf_base.specs.Known.{IsKnown}
use Rattle.claim_check.proofs.layer.is_of_entries.Given as goal

abbrev pub invariant-literals : goal.invariant-literals
invariant-literals l = (k : ℕ) → k < l.literal-index → (d : Literal) → IsKnown l.width (get_or l.claim k d)
