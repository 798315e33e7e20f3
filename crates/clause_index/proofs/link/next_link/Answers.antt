use Rattle.std.proofs.Common.{◌%◌, ◌∙◌}
use Rattle.clause_index.proofs.Links.{link_at, next_row}
use Rattle.clause_index.proofs.link.next_link.Goals as goal

pub returns : goal.returns
returns c =
    c.link.ensures
    ∙ (link_at c.positive-here.result c.entry-asked.result c.entry-argument.result (c.args.index % 2)
    c.positive-here.ensures c.entry-asked.ensures c.entry-argument.ensures
    ∙ next_row c.args.layout.now c.args.closure.now.formula c.args.step c.next_at-request.result.number c.next_at-request.result.argument c.args.index
    c.requires.later c.requires.within
    c.next_at-request.ensures.number c.next_at-request.ensures.argument)
