use Rattle.std.proofs.Common.{rules}
use Rattle.black_bench.proofs.questions.take_list.Goals as goal

pub solve-requires-clause-consistent : goal.solve-requires-clause-consistent
solve-requires-clause-consistent c = c.are_consistent.ensures.0 (search rules)
