use Rattle.std.proofs.Common.{ℕ, ◌<◌}
use Rattle.black_view.specs.Input.{Opens}
use Rattle.black_view.proofs.input.trace_at.Given as goal

abbrev pub invariant-loop-at : goal.invariant-loop-at
invariant-loop-at l = (k : ℕ) → k < l.at → ¬ (Opens l.bytes k)
