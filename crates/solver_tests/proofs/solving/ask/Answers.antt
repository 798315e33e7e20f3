use Rattle.std.proofs.Common.{rules}
use Rattle.solver_tests.proofs.solving.ask.Goals as goal

pub solve-requires-clause-consistent : goal.solve-requires-clause-consistent
solve-requires-clause-consistent g c = c.are_consistent.ensures.0 (search rules)
