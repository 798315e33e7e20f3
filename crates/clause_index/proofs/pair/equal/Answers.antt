use Rattle.std.proofs.Common.{◌+◌, ◌*◌, ◌<◌, ◌∙◌, suc, arith, ap, ap₂, ◌∷◌}
use Rattle.enc_layout.specs.Letters.{Differs}
use Rattle.clause_index.proofs.Runs.{run_same, differs_next, differs_small}
use Rattle.clause_index.proofs.pair.equal.Goals as goal

pub of-requires-clause-last : goal.of-requires-clause-last
of-requires-clause-last c =
    let k = c.args.layout.now.kind in
    let n = c.args.layout.now.counts in
    let some : 0 < c.args.places = grind (arith, c.if-places-eq0.false) in
    let small = differs_small k n c.args.earlier c.args.step c.requires.earlier (omega (arith, some, c.requires.all)) c.requires.fits in
    omega (arith, small.1, c.requires.all, c.letter-first.ensures)

pub returns : goal.returns
returns c =
    let k = c.args.layout.now.kind in
    let n = c.args.layout.now.counts in
    ap₂ ◌∷◌ c.positive-equal.ensures
    (c.of.ensures
    ∙ run_same k n c.letter-first.result.0 1 c.args.places (λ q. Differs c.args.earlier c.args.step (suc q))
    (λ q lt. ap (λ m. m + q * 1) c.letter-first.ensures ∙ differs_next k n c.args.earlier c.args.step q))
