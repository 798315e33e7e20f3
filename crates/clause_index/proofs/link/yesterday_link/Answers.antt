use Rattle.std.proofs.Common.{◌%◌, ◌∙◌}
use Rattle.clause_index.proofs.Links.{link_at, yesterday_row}
use Rattle.clause_index.proofs.link.yesterday_link.Goals as goal

pub returns : goal.returns
returns c =
    c.link.ensures
    ∙ (link_at c.positive-here.result c.entry-asked.result c.entry-argument.result (c.args.index % 2)
    c.positive-here.ensures c.entry-asked.ensures c.entry-argument.ensures
    ∙ yesterday_row c.args.layout.now c.args.closure.now.formula c.args.step c.yesterday_at-request.result.number c.yesterday_at-request.result.argument
    c.args.index c.requires.later c.requires.within
    c.yesterday_at-request.ensures.number c.yesterday_at-request.ensures.argument)
