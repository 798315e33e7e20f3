use Rattle.std.proofs.Common.{◌≡◌, sym, ap₂, ◌∙◌, subst}
use Rattle.std.proofs.lemmas.List.Elements.{All-contains_itself}
use Rattle.clause_log.specs.LogValue.{with_line}
use Rattle.cdcl_state.specs.StateValue.{StateValue, with_log}
use Rattle.cdcl_trail.specs.Trail.{IsTrail, AreValues}
use Rattle.cdcl_state.specs.Turns.{IsTurn}
use Rattle.cdcl_propagate.specs.Visit.{HaveSame}
use Rattle.cdcl_state.proofs.Short.{forced_by, lined, short_stands, short_turned}
use Rattle.cdcl_state.proofs.state.State.learn_short.Goals as goal

pub derive_short-requires-clause-same : goal.derive_short-requires-clause-same
derive_short-requires-clause-same c =
    let clause = c.args.learnt.now.clause.items in
    subst (λ xs. HaveSame xs c.deref-3.result.now) (sym c.deref.ensures.value)
    (subst (HaveSame clause) (sym c.deref-3.ensures.value) (record { there = All-contains_itself clause; back = All-contains_itself clause }))

pub force-requires-clause-stands : goal.force-requires-clause-stands
force-requires-clause-stands c =
    let old = c.args.self.now in
    let learnt = c.args.learnt.now in
    let values = c.self.inside.assigned.values in
    let told : AreValues values old.trail = subst (λ (s : StateValue). AreValues values s.trail) c.self.view_is c.invariant.ensures in
    let is_trail = subst (λ (s : StateValue). IsTrail s.log.inputs s.log.lines s.trail) c.self.view_is c.self.invariant.ready.is_trail in
    let mid_is : c.derive_short.new.self ≡ lined old learnt =
    c.in_ok-line.ensures.added.0 ∙ ap₂ (λ x y. with_log old (with_line old.log x y)) c.deref.ensures.value c.deref-2.ensures.value in
    (short_stands values old c.derive_short.new.self c.backjump.new.self c.in_ok-line.line learnt c.index.result.now told is_trail c.requires.learnt
    c.requires.asserting c.requires.short mid_is c.in_ok-line.ensures.added.1 c.backjump.ensures c.index.ensures).0

pub returns-clause-turned : goal.returns-clause-turned
returns-clause-turned c =
    let old = c.args.self.now in
    let learnt = c.args.learnt.now in
    let values = c.self.inside.assigned.values in
    let told : AreValues values old.trail = subst (λ (s : StateValue). AreValues values s.trail) c.self.view_is c.invariant.ensures in
    let is_trail = subst (λ (s : StateValue). IsTrail s.log.inputs s.log.lines s.trail) c.self.view_is c.self.invariant.ready.is_trail in
    let mid_is : c.derive_short.new.self ≡ lined old learnt =
    c.in_ok-line.ensures.added.0 ∙ ap₂ (λ x y. with_log old (with_line old.log x y)) c.deref.ensures.value c.deref-2.ensures.value in
    let stands = short_stands values old c.derive_short.new.self c.backjump.new.self c.in_ok-line.line learnt c.index.result.now told is_trail c.requires.learnt
    c.requires.asserting c.requires.short mid_is c.in_ok-line.ensures.added.1 c.backjump.ensures c.index.ensures in
    subst (λ (m : StateValue). IsTurn m c.force.new.self) mid_is
    (short_turned c.derive_short.new.self c.backjump.new.self c.force.new.self (forced_by c.index.result.now c.in_ok-line.line) c.backjump.ensures stands.1
    (λ free. cc) c.in_ok-force.ensures.forced)
