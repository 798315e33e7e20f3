use Rattle.std.proofs.Common.{◌∙◌, ap₂, [], ◌∷◌}
use Rattle.clause_index.proofs.Prunes.{seen_later}
use Rattle.clause_index.proofs.pruning.seen.Goals as goal

pub returns : goal.returns
returns c =
    ap₂ ◌∷◌ c.negative-unequal.ensures (ap₂ (λ a b. a ∷ b ∷ []) c.negative-unfulfilled.ensures c.positive-2.ensures)
    ∙ seen_later c.args.layout.now c.args.step c.args.earlier c.args.index c.requires.within c.if-index-eq0.false
