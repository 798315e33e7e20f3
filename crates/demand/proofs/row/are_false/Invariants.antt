use Rattle.std.proofs.Common.{◌≡◌, ℕ, ◌<◌, false}
use Rattle.demand.specs.Values.{value_at}
use Rattle.demand.proofs.row.are_false.Given as goal

abbrev pub invariant-loop-value : goal.invariant-loop-value
invariant-loop-value l = (j : ℕ) → j < l.value-index → value_at l.values j ≡ false
