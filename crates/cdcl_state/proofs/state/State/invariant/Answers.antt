use Rattle.std.proofs.Common.{◌≤◌, ◌+◌, length, subst}
use Rattle.cdcl_state.specs.StateValue.{StateValue}
use Rattle.cdcl_state.proofs.Known.{trail_known, trail_short}
use Rattle.cdcl_state.proofs.state.State.invariant.Goals as goal

pub returns-clause-short : goal.returns-clause-short
returns-clause-short c =
    let a = c.self.inside.assigned in
    let log = c.self.inside.log in
    let state = c.self.invariant in
    subst (λ (s : StateValue). length s.trail ≤ s.letters + 1) c.self.view_is
    (trail_short c.self.inside.letters a.values a.trail c.invariant.ensures
    (trail_known c.self.inside.letters log.inputs log.lines a.trail state.ready.is_trail state.known_inputs state.known_lines state.decided))
