use Rattle.std.proofs.Common.{sym}
use Rattle.requirement_answers.proofs.Numbered.{formula_at}
use Rattle.requirement_answers.proofs.replying.item_at.Goals as goal

pub returns-clause-formula : goal.returns-clause-formula
returns-clause-formula c = sym (formula_at c.args.document.now c.args.number c.index-item.result.now c.requires c.index-item.ensures)
