use Rattle.std.proofs.Common.{◌≡◌, All, sym, ap, subst}
use Rattle.clause_log.specs.LogValue.{LogValue, IsLineAdded}
use Rattle.cdcl_state.specs.Named.{AreOf}
use Rattle.cdcl_state.proofs.lettered.LetteredLog.take_back_line.Goals as goal

pub invariant_of-self : goal.invariant_of-self
invariant_of-self c =
    let log = c.self.inside.log in
    let before = c.requires.0 in
    let added : IsLineAdded before log = subst (IsLineAdded before) (sym c.self.view_is) c.requires.1 in
    let same : log.inputs ≡ before.inputs = ap (λ (l : LogValue). l.inputs) added.is in
    subst (λ (l : LogValue). All (AreOf c.self.inside.named) l.inputs) (sym (c.take_back_line.ensures before added))
    (subst (All (AreOf c.self.inside.named)) same c.self.invariant)

pub returns : goal.returns
returns c before added = c.take_back_line.ensures before (subst (IsLineAdded before) (sym c.self.view_is) added)
