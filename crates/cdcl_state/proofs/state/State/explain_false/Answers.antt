use Rattle.std.proofs.Common.{◌≢◌, ℕ, All, sym, ap, ◌∙◌, subst}
use Rattle.std.proofs.lemmas.List.{get_or_default}
use Rattle.cnf_base.specs.Literal.{opposite}
use Rattle.cnf_base.specs.Known.{IsKnown}
use Rattle.cdcl_analyze.specs.Reason.{IsAnalyzable}
use Rattle.cdcl_state.specs.StateValue.{StateValue}
use Rattle.cdcl_trail.specs.Trail.{blank_entry, literal_at, IsDecision}
use Rattle.cdcl_analyze.specs.Analysis.{AreFromOne, refuted_at}
use Rattle.cdcl_trail.specs.declared.assigned.TrailEntry.{TrailEntry}
use Rattle.cdcl_state.proofs.States.{analyzable}
use Rattle.cdcl_state.proofs.Known.{trail_known, known_from_one, learnt_known, refuted_known}
use Rattle.cdcl_state.proofs.state.State.explain_false.Goals as goal

pub explain_forced-requires-clause-from_one : goal.explain_forced-requires-clause-from_one
explain_forced-requires-clause-from_one c =
    let a = c.self.inside.assigned in
    let log = c.self.inside.log in
    let letters = c.self.inside.letters in
    let state = c.self.invariant in
    subst AreFromOne (sym c.of-graph.ensures.trail)
    (known_from_one letters a.trail (trail_known letters log.inputs log.lines a.trail state.ready.is_trail state.known_inputs state.known_lines state.decided))

pub of-graph-requires : goal.of-graph-requires
of-graph-requires c =
    subst (λ l. IsAnalyzable l c.self.inside.assigned c.arena.result.now) (sym c.log.ensures)
    (analyzable c.self.invariant c.arena.result.now c.arena.ensures.clauses c.arena.ensures.names)

pub returns-in-Some-clause-known : goal.returns-in-Some-clause-known
returns-in-Some-clause-known c =
    let a = c.self.inside.assigned in
    let log = c.self.inside.log in
    let letters = c.self.inside.letters in
    let state = c.self.invariant in
    let place = c.place-place.result in
    let learnt = c.in_ok-learnt-in-Some.learnt in
    let known = trail_known letters log.inputs log.lines a.trail state.ready.is_trail state.known_inputs state.known_lines state.decided in
    subst (λ (s : StateValue). All (IsKnown s.letters) learnt.clause.items) c.self.view_is
    (learnt_known letters c.of-graph.result.log (refuted_at c.of-graph.result.trail place) learnt c.in_ok-learnt-in-Some.ensures.learnt
    (subst (λ t. All (λ e. IsKnown letters e.literal) (refuted_at t place)) (sym c.of-graph.ensures.trail)
    (refuted_known letters a.trail place c.place-place.ensures.within known)))

-- a decision at the place would have another literal
pub unreachable-requires : goal.unreachable-requires
unreachable-requires c =
    let trail = c.self.inside.assigned.trail in
    let place = c.place-place.result in
    let within = c.place-place.ensures.within in
    let forced = subst (λ (s : StateValue). (p : ℕ) → IsDecision s.trail p → literal_at s.trail p ≢ opposite c.args.literal) (sym c.self.view_is)
    c.requires.forced in
    let free = ap (λ (e : TrailEntry). e.reason) (sym (c.entry.ensures ∙ get_or_default trail place _ blank_entry within)) ∙ c.in-None.is in
    forced place (record { within = within; free = free }) (c.place-place.ensures.there ∙ c.opposite.ensures)
