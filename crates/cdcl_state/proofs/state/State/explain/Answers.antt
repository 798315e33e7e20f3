use Rattle.std.proofs.Common.{All, sym, subst}
use Rattle.cnf_base.specs.Known.{IsKnown}
use Rattle.cdcl_analyze.specs.Analysis.{AreFromOne}
use Rattle.cdcl_analyze.specs.Reason.{IsAnalyzable}
use Rattle.cdcl_state.specs.StateValue.{StateValue}
use Rattle.cdcl_state.proofs.Known.{trail_known, known_from_one, learnt_known}
use Rattle.cdcl_state.proofs.States.{analyzable}
use Rattle.cdcl_state.proofs.state.State.explain.Goals as goal

pub explain-requires-clause-from_one : goal.explain-requires-clause-from_one
explain-requires-clause-from_one c =
    let a = c.self.inside.assigned in
    let log = c.self.inside.log in
    let letters = c.self.inside.letters in
    let state = c.self.invariant in
    subst AreFromOne (sym c.of-graph.ensures.trail)
    (known_from_one letters a.trail (trail_known letters log.inputs log.lines a.trail state.ready.is_trail state.known_inputs state.known_lines state.decided))

pub of-graph-requires : goal.of-graph-requires
of-graph-requires c =
    subst (λ l. IsAnalyzable l c.self.inside.assigned c.arena.result.now) (sym c.log.ensures)
    (analyzable c.self.invariant c.arena.result.now c.arena.ensures.clauses c.arena.ensures.names)

pub returns-clause-known : goal.returns-clause-known
returns-clause-known c =
    let a = c.self.inside.assigned in
    let log = c.self.inside.log in
    let letters = c.self.inside.letters in
    let state = c.self.invariant in
    let learnt = c.in_ok-learnt.learnt in
    let known = subst (All (λ e. IsKnown letters e.literal)) (sym c.of-graph.ensures.trail)
    (trail_known letters log.inputs log.lines a.trail state.ready.is_trail state.known_inputs state.known_lines state.decided) in
    subst (λ (s : StateValue). All (IsKnown s.letters) learnt.clause.items) c.self.view_is
    (learnt_known letters c.of-graph.result.log c.of-graph.result.trail learnt c.in_ok-learnt.ensures.learnt known)
