use Rattle.std.proofs.Common.{All, sym, ap, subst}
use Rattle.clause_log.specs.LogValue.{LogValue, IsInputAdded}
use Rattle.cdcl_state.specs.Named.{AreOf}
use Rattle.cdcl_state.proofs.Naming.{of_fewer}
use Rattle.cdcl_state.proofs.lettered.LetteredLog.take_back_input.Goals as goal

pub invariant_of-self : goal.invariant_of-self
invariant_of-self c =
    let log = c.self.inside.log in
    let before = c.requires.0 in
    let added : IsInputAdded before log = subst (IsInputAdded before) (sym c.self.view_is) c.requires.1 in
    let fewer = of_fewer c.self.inside.named before.inputs log.inputs added.clause (ap (λ (l : LogValue). l.inputs) added.is) c.self.invariant in
    subst (λ (l : LogValue). All (AreOf c.self.inside.named) l.inputs) (sym (c.take_back_input.ensures before added)) fewer

pub returns : goal.returns
returns c before added = c.take_back_input.ensures before (subst (IsInputAdded before) (sym c.self.view_is) added)
