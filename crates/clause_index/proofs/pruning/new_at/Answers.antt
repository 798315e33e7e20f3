use Rattle.std.proofs.Common.{◌∙◌}
use Rattle.clause_index.proofs.Prunes.{new_row}
use Rattle.clause_index.proofs.pruning.new_at.Goals as goal

pub returns : goal.returns
returns c =
    c.new_clause.ensures
    ∙ new_row c.args.layout.now c.args.closure.now.formula c.args.step c.args.earlier c.args.index c.eventuality_at-request.result.request c.requires.within
    c.eventuality_at-request.ensures.request
