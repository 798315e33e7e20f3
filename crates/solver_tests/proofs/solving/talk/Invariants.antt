use Rattle.std.proofs.Common.{◌≡◌}
use Rattle.solver_tests.proofs.solving.talk.Given as goal

abbrev pub invariant-loop-letters : goal.invariant-loop-letters
invariant-loop-letters g l = l.solver.letters ≡ l.known
