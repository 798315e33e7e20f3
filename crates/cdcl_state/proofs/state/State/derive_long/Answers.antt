use Rattle.std.proofs.Common.{◌≡◌, ◌+◌, All, length, sym, ap, ◌∙◌, subst}
use Rattle.std.proofs.lemmas.List.{length_push}
use Rattle.cnf_base.specs.Known.{IsKnown}
use Rattle.clause_log.specs.LogValue.{LogValue}
use Rattle.cdcl_state.specs.StateValue.{StateValue, state_of}
use Rattle.cdcl_state.proofs.Attach.{line_more, state_long, known_more, stored_below, stored_fits}
use Rattle.cdcl_state.proofs.state.State.derive_long.Goals as goal

pub store-requires-clause-fits : goal.store-requires-clause-fits
store-requires-clause-fits c =
    let known : All (IsKnown c.self.inside.letters) c.args.clause.now =
    subst (λ (s : StateValue). All (IsKnown s.letters) c.args.clause.now) (sym c.self.view_is) c.requires.known in
    stored_fits c.self.inside.letters c.self.inside.assigned c.self.inside.watches.lists c.args.clause.now c.args.stored.now c.self.invariant.room
    c.self.invariant.ready.sized known c.requires.same

pub rewind-requires-clause-known : goal.rewind-requires-clause-known
rewind-requires-clause-known c =
    let known : All (IsKnown c.self.inside.letters) c.args.clause.now =
    subst (λ (s : StateValue). All (IsKnown s.letters) c.args.clause.now) (sym c.self.view_is) c.requires.known in
    stored_below c.self.inside.letters c.self.inside.assigned c.args.clause.now c.args.stored.now c.self.invariant.room known c.requires.same

pub invariant_of-self-in-Ok : goal.invariant_of-self-in-Ok
invariant_of-self-in-Ok c =
    let letters = c.self.inside.letters in
    let log = c.self.inside.log in
    let clause = c.args.clause.now in
    let number = c.in_ok-number.number in
    let known : All (IsKnown letters) clause = subst (λ (s : StateValue). All (IsKnown s.letters) clause) (sym c.self.view_is) c.requires.known in
    let count : number ≡ length log.lines + 1 =
    c.in_ok-number.ensures.added.1 ∙ ap (λ (l : LogValue). length l.lines) c.in_ok-number.ensures.added.0 ∙ length_push log.lines clause in
    rw c.in_ok-number.ensures.added.0
    (state_long c.self.invariant (line_more log clause c.args.hints.now number count) c.self.invariant.known_inputs
    (known_more letters log.lines clause c.self.invariant.known_lines known) c.in-Ok.ensures.stored c.requires.same c.requires.long c.requires.apart
    c.rewind.ensures)

pub invariant_of-self-in-Err : goal.invariant_of-self-in-Err
invariant_of-self-in-Err c =
    let back = c.take_back_line.ensures c.self.inside.log
    (record { clause = c.args.clause.now; hints = c.args.hints.now; is = c.in_ok-number.ensures.added.0 }) in
    rw (c.in-Err.ensures.refused, back) c.self.invariant

pub returns-in-Err-clause-refused : goal.returns-in-Err-clause-refused
returns-in-Err-clause-refused c =
    let back = c.take_back_line.ensures c.self.inside.log
    (record { clause = c.args.clause.now; hints = c.args.hints.now; is = c.in_ok-number.ensures.added.0 }) in
    ap (λ l. state_of c.self.inside.letters c.self.inside.assigned.trail l c.self.inside.all_lines) back ∙ c.self.view_is
