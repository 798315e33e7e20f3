use Rattle.std.proofs.Common.{◌≡◌, ◌≤◌, None, All, Contains, length, take, sym, ap, ◌∙◌, subst, arith}
use Rattle.cdcl_state.specs.StateValue.{StateValue}
use Rattle.cdcl_trail.specs.declared.assigned.TrailEntry.{TrailEntry}
use Rattle.cdcl_state.proofs.Retreat.{kept_whole, kept_front}
use Rattle.cdcl_state.proofs.state.State.leave.Goals as goal

pub returns-then-place-len-clause-decided : goal.returns-then-place-len-clause-decided
returns-then-place-len-clause-decided c =
    let trail = c.self.inside.assigned.trail in
    let new = c.backjump.new.self.trail in
    let same : trail ≡ c.args.self.now.trail = ap (λ (s : StateValue). s.trail) c.self.view_is in
    let within = c.if-place-len.true in
    kept_front c.args.kept.now trail c.first_other-place.result c.first_other-place.ensures.before c.self.inside.log.inputs c.self.inside.log.lines new
    c.self.invariant.ready.is_trail
    (c.first_other-place.ensures.other (omega (arith, within, c.len.ensures)))
    (ap (λ (s : StateValue). s.trail) c.backjump.ensures.front ∙ ap (λ t. take (length new) t) (sym same))
    (subst (λ t. length new ≤ length t) (sym same) c.backjump.ensures.short) c.backjump.ensures.low

pub returns-else-place-len-clause-decided : goal.returns-else-place-len-clause-decided
returns-else-place-len-clause-decided c =
    let trail = c.self.inside.assigned.trail in
    let same : trail ≡ c.args.self.now.trail = ap (λ (s : StateValue). s.trail) c.self.view_is in
    subst (All (λ (e : TrailEntry). e.reason ≡ None → Contains c.args.kept.now e.literal)) same
    (kept_whole c.args.kept.now trail c.first_other-place.result c.first_other-place.ensures.before (omega (arith, c.if-place-len.false, c.len.ensures)))
