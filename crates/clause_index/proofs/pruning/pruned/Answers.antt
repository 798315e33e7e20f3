use Rattle.std.proofs.Common.{◌<◌, ◌∙◌, arith, ap₂, ◌∷◌}
use Rattle.clause_index.proofs.Runs.{new_small_of, new_same_of}
use Rattle.clause_index.proofs.pruning.pruned.Goals as goal

pub of-requires-clause-last : goal.of-requires-clause-last
of-requires-clause-last c =
    let some : 0 < c.args.count = grind (arith, c.if-count-eq0.false) in
    let small = new_small_of c.args.layout.now.kind c.args.layout.now.counts c.requires.infinite c.args.earlier c.args.step c.requires.earlier
    (omega (arith, some, c.requires.all)) c.requires.fits in
    omega (arith, small, c.requires.all, c.letter-first.ensures)

pub returns : goal.returns
returns c =
    ap₂ ◌∷◌ c.may_prune-any.ensures (ap₂ ◌∷◌ c.negative-unequal.ensures (ap₂ ◌∷◌ c.negative-single.ensures
    (c.of.ensures ∙ new_same_of c.args.layout.now.kind c.args.layout.now.counts c.requires.infinite c.args.earlier c.args.step c.args.count
    c.letter-first.result.0 c.letter-first.ensures)))
