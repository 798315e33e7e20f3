use Rattle.std.proofs.Common.{◌∙◌}
use Rattle.clause_index.proofs.Runs.{loops_small_of, loops_same_of}
use Rattle.clause_index.proofs.acceptance.loops.Goals as goal

pub of-requires-2-clause-last : goal.of-requires-2-clause-last
of-requires-2-clause-last c =
    loops_small_of c.args.layout.now.kind c.args.layout.now.counts c.requires.infinite c.args.step c.requires.later c.requires.fits c.letter-first.result.0
    c.letter-second.result.0 c.letter-first.ensures c.letter-second.ensures

pub returns : goal.returns
returns c =
    c.of-2.ensures ∙ loops_same_of c.args.layout.now.kind c.args.layout.now.counts c.requires.infinite c.args.step c.letter-first.result.0
    c.letter-second.result.0 c.letter-first.ensures c.letter-second.ensures
