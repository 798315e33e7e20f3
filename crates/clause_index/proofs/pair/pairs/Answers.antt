use Rattle.std.proofs.Common.{◌∙◌, arith, ap}
use Rattle.clause_index.specs.Counts.{pair_size}
use Rattle.clause_index.proofs.Pairs.{in_pair_of}
use Rattle.clause_index.proofs.pair.pairs.Goals as goal

pub overflow_cast-earlier : goal.overflow_cast-earlier
overflow_cast-earlier c =
    let same = c.pair-size.ensures.size ∙ ap (λ s. pair_size s.kind s) c.requires.sizes in
    let place =
    in_pair_of c.args.layout.now c.args.closure.now.formula c.args.closure.now.kind c.args.step c.args.index c.pair-size.result same c.requires.within in
    omega (arith, place.earlier, c.requires.few)

pub pair-requires-clause-earlier : goal.pair-requires-clause-earlier
pair-requires-clause-earlier c =
    let same = c.pair-size.ensures.size ∙ ap (λ s. pair_size s.kind s) c.requires.sizes in
    let place =
    in_pair_of c.args.layout.now c.args.closure.now.formula c.args.closure.now.kind c.args.step c.args.index c.pair-size.result same c.requires.within in
    place.earlier

pub pair-requires-clause-within : goal.pair-requires-clause-within
pair-requires-clause-within c =
    let same = c.pair-size.ensures.size ∙ ap (λ s. pair_size s.kind s) c.requires.sizes in
    let place =
    in_pair_of c.args.layout.now c.args.closure.now.formula c.args.closure.now.kind c.args.step c.args.index c.pair-size.result same c.requires.within in
    place.within

pub returns : goal.returns
returns c =
    let same = c.pair-size.ensures.size ∙ ap (λ s. pair_size s.kind s) c.requires.sizes in
    let place =
    in_pair_of c.args.layout.now c.args.closure.now.formula c.args.closure.now.kind c.args.step c.args.index c.pair-size.result same c.requires.within in
    c.pair.ensures ∙ place.row
