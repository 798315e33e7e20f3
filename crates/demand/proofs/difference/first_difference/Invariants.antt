use Rattle.std.proofs.Common.{◌≡◌, ℕ, ◌<◌}
use Rattle.demand.specs.Values.{value_at}
use Rattle.demand.proofs.difference.first_difference.Given as goal

abbrev pub invariant-loop-place : goal.invariant-loop-place
invariant-loop-place l = (j : ℕ) → j < l.place → value_at l.left j ≡ value_at l.right j
