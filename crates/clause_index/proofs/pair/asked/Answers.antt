use Rattle.std.proofs.Common.{◌∙◌, ap, ap₂, [], ◌∷◌}
use Rattle.cnf_base.specs.Literal.{opposite}
use Rattle.clause_index.proofs.Pairs.{asked_row}
use Rattle.clause_index.proofs.pair.asked.Goals as goal

pub returns : goal.returns
returns c =
    ap₂ ◌∷◌ c.negative-closes.ensures (ap₂ ◌∷◌ (c.opposite.ensures ∙ ap opposite c.entry-asked.ensures) (ap (λ l. l ∷ []) c.positive-fulfilled.ensures))
    ∙ asked_row c.args.layout.now c.args.closure.now.formula c.args.step c.args.earlier c.args.index c.eventuality_at-request.result.request c.requires.within
    c.eventuality_at-request.ensures.request
