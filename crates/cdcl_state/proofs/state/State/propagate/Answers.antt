use Rattle.std.proofs.Common.{◌≡◌, ℕ, ◌≤◌, ◌⊎◌, Option, MatchOption, Some, None, List, length, sym, subst, arith}
use Rattle.clause_log.specs.LogValue.{LogValue}
use Rattle.cdcl_trail.specs.Trail.{literals_of, IsConflict, IsTrail}
use Rattle.cdcl_trail.specs.Assigned.{AssignedValue}
use Rattle.cdcl_trail.specs.declared.assigned.TrailEntry.{TrailEntry}
use Rattle.cdcl_watches.specs.Watching.{WatchValue}
use Rattle.cdcl_propagate.specs.Visit.{IsReady}
use Rattle.cdcl_state.specs.StateValue.{IsSettled, Propagated}
use Rattle.cdcl_state.specs.State.{Parts, IsState, parts}
use Rattle.cdcl_propagate.specs.Units.{AreShort, AreFirm}
use Rattle.cdcl_propagate.proofs.Ready.{none_case, grown_more}
use Rattle.cdcl_state.proofs.States.{seen, state_grown, state_visited, state_firm, firm_now, finished, settled, is_propagated}
use Rattle.cdcl_state.proofs.state.State.propagate.Goals as goal
use Rattle.cdcl_state.proofs.state.State.propagate.Goals.{After-settle}

trail_of : {old new : LogValue} (trail : List TrailEntry) → old ≡ new → IsTrail old.inputs old.lines trail → IsTrail new.inputs new.lines trail
trail_of trail is h = subst (λ (l : LogValue). IsTrail l.inputs l.lines trail) is h

ready_of : {old new : LogValue} (propagated : ℕ) (a : AssignedValue) (w : WatchValue) → old ≡ new → IsReady old.inputs old.lines propagated a w
    → IsReady new.inputs new.lines propagated a w
ready_of propagated a w is h = subst (λ (l : LogValue). IsReady l.inputs l.lines propagated a w) is h

pub visit_units-requires-clause-short : goal.visit_units-requires-clause-short
visit_units-requires-clause-short c =
    subst (λ (l : LogValue). AreShort l.inputs l.lines c.deref.result.now) (sym c.log.ensures)
    (subst (AreShort c.self.inside.log.inputs c.self.inside.log.lines) (sym c.deref.ensures.value) c.self.invariant.short)

pub visit_units-requires-clause-firm : goal.visit_units-requires-clause-firm
visit_units-requires-clause-firm c =
    let log = c.self.inside.log in
    let a = c.self.inside.assigned in
    subst (λ (l : LogValue). AreFirm l.inputs l.lines c.deref.result.now c.self.inside.units_done (literals_of a.trail)) (sym c.log.ensures)
    (subst (λ us. AreFirm log.inputs log.lines us c.self.inside.units_done (literals_of a.trail)) (sym c.deref.ensures.value)
    (firm_now log.inputs log.lines c.self.inside.units.items c.self.inside.units_done c.self.inside.units_trail a.trail c.self.invariant.units_trail_in
    c.self.invariant.are_firm))

pub invariant_of-self : goal.invariant_of-self
invariant_of-self c =
    let is_trail = trail_of c.visit_units.new.assigned.trail c.log.ensures c.in_err-hint.ensures.is_trail in
    state_visited c.visit_units.new.assigned c.self.invariant c.in_err-hint.ensures.grown is_trail c.in_err-hint.ensures.letters

pub invariant_of-self-in-Some : goal.invariant_of-self-in-Some
invariant_of-self-in-Some c =
    let is_trail = trail_of c.visit_units.new.assigned.trail c.log.ensures c.in_ok-hint.ensures.is_trail in
    state_visited c.visit_units.new.assigned c.self.invariant c.in_ok-hint.ensures.grown is_trail c.in_ok-hint.ensures.letters

-- the parts once the short clauses were visited, and once these count as true
abbrev half : After-settle → Parts
half c = record (parts c.self.inside) { assigned = c.visit_units.new.assigned }

abbrev mid : After-settle → Parts
mid c = record (half c) { units_done = c.settle.new.units_done; units_trail = c.settle.new.units_trail }

visited : (c : After-settle) → IsState (half c)
visited c =
    let is_trail = trail_of c.visit_units.new.assigned.trail c.log.ensures c.in_ok-hint.ensures.is_trail in
    state_visited c.visit_units.new.assigned c.self.invariant c.in_ok-hint.ensures.grown is_trail c.in_ok-hint.ensures.letters

abbrev IsSettle : ℕ → ℕ → ℕ → ℕ → ℕ → ℕ → Type 0
IsSettle count units_done still solid firm len = ((count ≤ units_done) × (still ≡ units_done) × (solid ≡ firm)) ⊎ ((still ≡ count) × (solid ≡ len))

cases : (c : After-settle) → IsSettle (length (half c).units) (half c).units_done c.settle.new.units_done c.settle.new.units_trail (half c).units_trail
    (length (half c).assigned.trail)
cases c =
    let count : c.len.result ≡ length (half c).units = omega arith in
    rw (← count, ← c.len-2.ensures) c.settle.ensures.all

firm : (c : After-settle) → IsState (mid c)
firm c =
    let s = half c in
    let true_ones = literals_of s.assigned.trail in
    let firm_units = none_case _ c.in_ok-hint.field-0 c.in-None.is c.in_ok-hint.ensures.found in
    state_firm c.settle.new.units_done c.settle.new.units_trail (visited c)
    (subst (λ us. AreFirm s.log.inputs s.log.lines us (length us) true_ones) c.deref.ensures.value
    (subst (λ (l : LogValue). AreFirm l.inputs l.lines c.deref.result.now (length c.deref.result.now) true_ones) c.log.ensures firm_units)) (cases c)

pub propagate-requires-clause-lasting : goal.propagate-requires-clause-lasting
propagate-requires-clause-lasting c = (visited (goal.at.propagate-requires-clause-lasting c).After-settle).is_lasting

pub propagate-requires-clause-ready : goal.propagate-requires-clause-ready
propagate-requires-clause-ready c =
    ready_of c.self.inside.propagated c.visit_units.new.assigned c.self.inside.watches (sym c.log-2.ensures)
    (visited (goal.at.propagate-requires-clause-ready c).After-settle).ready

pub invariant_of-self-in_err-found : goal.invariant_of-self-in_err-found
invariant_of-self-in_err-found c =
    state_grown c.propagate.new.lasting (firm (goal.at.invariant_of-self-in_err-found c).After-settle)
    (ready_of c.propagate.new.propagated c.propagate.new.assigned c.propagate.new.watches c.log-2.ensures c.in_err-found.ensures.kept)
    c.in_err-found.ensures.grown c.in_err-found.ensures.letters c.in_err-found.ensures.names c.in_err-found.ensures.low c.in_err-found.ensures.lasting

pub returns-in_err-found-clause-grown : goal.returns-in_err-found-clause-grown
returns-in_err-found-clause-grown c =
    let s = c.self.inside in
    subst (λ v. Propagated v (seen (record (parts s) { assigned = c.propagate.new.assigned }))) c.self.view_is
    (is_propagated s.letters s.log s.all_lines s.assigned.trail c.propagate.new.assigned.trail
    (grown_more s.assigned.trail c.visit_units.new.assigned.trail c.propagate.new.assigned.trail c.in_ok-hint.ensures.grown c.in_err-found.ensures.grown))

pub invariant_of-self-2 : goal.invariant_of-self-2
invariant_of-self-2 c =
    state_grown c.propagate.new.lasting (firm (goal.at.invariant_of-self-2 c).After-settle)
    (ready_of c.propagate.new.propagated c.propagate.new.assigned c.propagate.new.watches c.log-2.ensures c.in_ok-found.ensures.kept)
    c.in_ok-found.ensures.grown c.in_ok-found.ensures.letters c.in_ok-found.ensures.names c.in_ok-found.ensures.low c.in_ok-found.ensures.lasting

pub returns-clause-grown : goal.returns-clause-grown
returns-clause-grown c =
    let s = c.self.inside in
    subst (λ v. Propagated v (seen (record (parts s) { assigned = c.propagate.new.assigned }))) c.self.view_is
    (is_propagated s.letters s.log s.all_lines s.assigned.trail c.propagate.new.assigned.trail
    (grown_more s.assigned.trail c.visit_units.new.assigned.trail c.propagate.new.assigned.trail c.in_ok-hint.ensures.grown c.in_ok-found.ensures.grown))

found_weaker : {X : Type 0} (A B : Type 0) (P : X → Type 0) (o : Option X) → (A → B) → MatchOption o A P → MatchOption o B P
found_weaker A B P None f h = f h
found_weaker A B P (Some x) f h = h

pub returns-clause-found : goal.returns-clause-found
returns-clause-found c =
    let after = (goal.at.returns-clause-found c).After-settle in
    let m = mid after in
    let now : Parts = record m {
      assigned = c.propagate.new.assigned;
      watches = c.propagate.new.watches;
      propagated = c.propagate.new.propagated;
      lasting = c.propagate.new.lasting;
    } in
    let grown : IsState now = state_grown c.propagate.new.lasting (firm after)
    (ready_of c.propagate.new.propagated c.propagate.new.assigned c.propagate.new.watches c.log-2.ensures c.in_ok-found.ensures.kept)
    c.in_ok-found.ensures.grown c.in_ok-found.ensures.letters c.in_ok-found.ensures.names c.in_ok-found.ensures.low c.in_ok-found.ensures.lasting in
    let finish = finished (length m.units) c.self.inside.units_done m.units_done m.units_trail c.self.inside.units_trail (length m.assigned.trail)
    c.self.invariant.units_done_in (cases after) in
    found_weaker (now.propagated ≡ length now.assigned.trail) (IsSettled (seen now)) (IsConflict now.log.inputs now.log.lines (literals_of now.assigned.trail))
    c.in_ok-found.found
    (λ all. settled grown c.invariant-2.ensures c.invariant.ensures.watched all finish)
    (subst (λ (l : LogValue). MatchOption c.in_ok-found.found (now.propagated ≡ length now.assigned.trail)
    (IsConflict l.inputs l.lines (literals_of now.assigned.trail))) c.log-2.ensures c.in_ok-found.ensures.found)
