use Rattle.std.proofs.Common.{◌+◌, is_ok, None, sym, ap, subst, arith}
use Rattle.cnf_base.specs.Known.{IsKnown}
use Rattle.cdcl_state.specs.StateValue.{StateValue}
use Rattle.cdcl_trail.specs.declared.assigned.TrailEntry.{TrailEntry}
use Rattle.cdcl_trail.proofs.Bound.{trail_bounded}
use Rattle.cdcl_state.proofs.States.{state_assigned, decision_stands}
use Rattle.cdcl_state.proofs.state.State.decide.Goals as goal

pub overflow_add-level : goal.overflow_add-level
overflow_add-level c =
    let bounded = trail_bounded c.self.inside.assigned.values c.self.inside.assigned.trail c.invariant.ensures in
    omega (arith, bounded, c.self.invariant.few, c.len-level.ensures)

pub invariant_of-self : goal.invariant_of-self
invariant_of-self c =
    let a = c.self.inside.assigned in
    let log = c.self.inside.log in
    let level = c.len-level.result + 1 in
    let e : TrailEntry = record { literal = c.args.literal; level = level; reason = None } in
    let known : IsKnown c.self.inside.letters c.args.literal =
    subst (λ (s : StateValue). IsKnown s.letters c.args.literal) (sym c.self.view_is) c.requires.known in
    state_assigned c.assign.new.self e c.self.invariant c.assign.ensures.letters
    (decision_stands log.inputs log.lines a.trail c.args.literal level c.self.invariant.ready.is_trail (ap (λ n. n + 1) c.len-level.ensures)) (λ _. known)
    (is_ok c.assign.result) c.assign.ensures.trail
