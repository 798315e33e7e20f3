use Rattle.std.proofs.Common.{◌∙◌, ap, ap₂, [], ◌∷◌}
use Rattle.cnf_base.specs.Literal.{opposite}
use Rattle.clause_index.proofs.Strong.{end_row}
use Rattle.clause_index.proofs.acceptance.finite.Goals as goal

pub returns : goal.returns
returns c =
    ap₂ (λ a b. a ∷ b ∷ []) c.negative-accepted.ensures (c.opposite.ensures ∙ ap opposite c.entry.ensures)
    ∙ end_row c.args.closure.now.formula c.args.layout.now c.args.step c.strong_spot.result c.next_at-request.result.number c.args.index
    c.strong_spot.ensures.known c.strong_spot.ensures.place
    c.strong_spot.ensures.strong c.requires.within c.next_at-request.ensures.number
