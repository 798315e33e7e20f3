use Rattle.std.proofs.Common.{◌≡◌}
use Rattle.solver_tests.proofs.solving.play.Given as goal

abbrev pub invariant-loop-row : goal.invariant-loop-row
invariant-loop-row g l = l.solver.letters ≡ l.letters
