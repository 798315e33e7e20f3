use Rattle.std.proofs.Common.{◌∙◌, ap, ap₂, [], ◌∷◌}
use Rattle.cnf_base.specs.Literal.{opposite}
use Rattle.clause_index.proofs.Strong.{empty_row}
use Rattle.clause_index.proofs.acceptance.empty.Goals as goal

pub returns : goal.returns
returns c =
    ap₂ (λ a b. a ∷ b ∷ []) c.negative-empty.ensures (c.opposite.ensures ∙ ap opposite c.entry.ensures)
    ∙ empty_row c.args.closure.now.formula c.args.layout.now c.args.step c.args.index c.next_at-request.result.number c.requires.within
    c.next_at-request.ensures.number
