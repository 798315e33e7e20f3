use Rattle.std.proofs.Common.{◌≡◌, ◌+◌, All, length, sym, ap, ◌∙◌, subst}
use Rattle.std.proofs.lemmas.List.{length_push}
use Rattle.cnf_base.specs.Known.{IsKnown}
use Rattle.clause_log.specs.LogValue.{LogValue}
use Rattle.cdcl_state.specs.StateValue.{StateValue, state_of}
use Rattle.cdcl_state.proofs.Attach.{input_more, state_short, known_more}
use Rattle.cdcl_state.proofs.Distinct.{one_short}
use Rattle.cdcl_state.proofs.state.State.add_short.Goals as goal

pub invariant_of-self-in-Ok : goal.invariant_of-self-in-Ok
invariant_of-self-in-Ok c =
    let letters = c.self.inside.letters in
    let log = c.self.inside.log in
    let clause = c.args.clause.now in
    let number = c.in_ok-number.number in
    let known : All (IsKnown letters) clause = subst (λ (s : StateValue). All (IsKnown s.letters) clause) (sym c.self.view_is) c.requires.known in
    let count : number ≡ length log.inputs + 1 =
    c.in_ok-number.ensures.added.1 ∙ ap (λ (l : LogValue). length l.inputs) c.in_ok-number.ensures.added.0 ∙ length_push log.inputs clause in
    rw (c.in-Ok.ensures.items, c.in_ok-number.ensures.added.0)
    (state_short c.self.invariant (input_more log clause number count) (known_more letters log.inputs clause c.self.invariant.known_inputs known)
    c.self.invariant.known_lines (one_short clause c.args.stored.now c.requires.same c.requires.short))

pub invariant_of-self-in-Err : goal.invariant_of-self-in-Err
invariant_of-self-in-Err c =
    let back = c.take_back_input.ensures c.self.inside.log
    (record { log = c.invariant.ensures; clause = c.args.clause.now; is = c.in_ok-number.ensures.added.0 }) in
    rw (c.in-Err.ensures.items, back) c.self.invariant

pub returns-in-Err-clause-refused : goal.returns-in-Err-clause-refused
returns-in-Err-clause-refused c =
    let back = c.take_back_input.ensures c.self.inside.log
    (record { log = c.invariant.ensures; clause = c.args.clause.now; is = c.in_ok-number.ensures.added.0 }) in
    ap (λ l. state_of c.self.inside.letters c.self.inside.assigned.trail l c.self.inside.all_lines) back ∙ c.self.view_is
