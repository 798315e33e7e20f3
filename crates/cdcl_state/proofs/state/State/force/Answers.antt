use Rattle.std.proofs.Common.{is_ok, sym, subst}
use Rattle.cdcl_state.specs.StateValue.{StateValue, MayStand}
use Rattle.cdcl_trail.specs.declared.assigned.TrailEntry.{TrailEntry}
use Rattle.cdcl_state.proofs.States.{state_assigned}
use Rattle.cdcl_state.proofs.Short.{forced_by}
use Rattle.cdcl_state.proofs.state.State.force.Goals as goal

pub invariant_of-self : goal.invariant_of-self
invariant_of-self c =
    let e : TrailEntry = forced_by c.args.literal c.args.line in
    let stands = subst (λ (s : StateValue). MayStand s e) (sym c.self.view_is) c.requires.stands in
    state_assigned c.assign.new.self e c.self.invariant c.assign.ensures.letters stands.stands (λ free. cc) (is_ok c.assign.result) c.assign.ensures.trail
