use Rattle.std.proofs.Common.{◌≡◌}
use Rattle.solver_tests.proofs.solving.add.Given as goal

abbrev pub invariant-loop-number : goal.invariant-loop-number
invariant-loop-number g l = l.solver.letters ≡ l.letters
