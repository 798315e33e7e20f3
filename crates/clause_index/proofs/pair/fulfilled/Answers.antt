use Rattle.std.proofs.Common.{◌∙◌}
use Rattle.clause_index.proofs.Pairs.{fulfilled_row}
use Rattle.clause_index.proofs.pair.fulfilled.Goals as goal

pub returns : goal.returns
returns c =
    c.fulfilled_clause.ensures
    ∙ fulfilled_row c.args.layout.now c.args.closure.now.formula c.args.step c.args.earlier c.args.index c.eventuality_at-right.result.right
    c.fulfilled_size-size.result
    c.requires.earlier c.requires.within c.fulfilled_size-size.ensures.size c.eventuality_at-right.ensures.right
