use Rattle.std.proofs.Common.{◌∙◌}
use Rattle.clause_index.proofs.Pairs.{place_row}
use Rattle.clause_index.proofs.pair.place.Goals as goal

pub returns : goal.returns
returns c =
    c.place_clause.ensures
    ∙ place_row c.args.layout.now c.args.closure.now.formula c.args.step c.args.earlier c.args.index c.carried_at-entry.result c.requires.within
    c.carried_at-entry.ensures.number
