use Rattle.std.proofs.Common.{◌≡◌}
use Rattle.black_bench.proofs.questions.read_lists.Given as goal

abbrev pub invariant-bytes : goal.invariant-bytes
invariant-bytes l = l.solver.letters ≡ l.letters
