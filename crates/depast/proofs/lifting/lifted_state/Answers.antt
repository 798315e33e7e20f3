use Rattle.std.proofs.Common.{◌≡◌, ◌∙◌, ◌+◌, [], ap, sym, subst, arith, length, slice_index_or}
use Rattle.std.proofs.lemmas.Option.{get_or_from_slice_get}
use Rattle.ltl_word.specs.Trace.{state_at}
use Rattle.depast.specs.Sources.{shown, blank_source}
use Rattle.depast.specs.States.{AreOthers}
use Rattle.depast.proofs.ShownNames.{Told, none_shown, one_shown, one_hidden, all_shown}
use Rattle.depast.proofs.lifting.lifted_state.Goals as goal
use Rattle.depast.proofs.lifting.lifted_state.Goals.{Joined-shows, then-shows+in_ok-new+in_ok-push, else-shows}

pub loop-number-init : goal.loop-number-init
loop-number-init c =
    none_shown c.args.meanings.now c.args.removed.now.names (state_at c.args.trace.now c.args.position) c.args.position c.in_ok-names.names.items
    (subst (λ old. AreOthers c.args.meanings.now.new old c.in_ok-names.names.items) c.state_of.ensures c.in_ok-names.ensures)

-- what was read
read : (c : Joined-shows)
    → c.shows.result ≡ shown c.args.meanings.now.values (slice_index_or c.args.meanings.now.sources.items c.loop-number.number blank_source) c.args.position
read c = c.shows.ensures ∙ ap (λ xs. shown c.args.meanings.now.values (slice_index_or xs c.loop-number.number blank_source) c.args.position)
    c.deref-source-items.ensures.value

pub loop-number-preserved : goal.loop-number-preserved
loop-number-preserved c =
    elim c.if-shows.branch [
      | then-shows+in_ok-new+in_ok-push w ↦
          let items = w.in_ok-push.ensures.items in
          subst (λ o. Told c.args.meanings.now c.args.removed.now.names (state_at c.args.trace.now c.args.position) c.args.position (c.loop-number.number + 1)
          o.items) (sym w.names-is)
          (one_shown c.args.meanings.now c.args.removed.now.names (state_at c.args.trace.now c.args.position)
          c.args.position c.loop-number.number c.loop-number.names.items w.push.new.self.items w.in_ok-new.field-0 c.loop-number.invariant
          w.in_ok-push.ensures.items (w.in_ok-new.ensures
          ∙ sym (get_or_from_slice_get c.args.removed.now.names c.loop-number.number w.name.result.now [] w.name.ensures)) (sym (read c) ∙ w.if-shows.true))
      | else-shows w ↦
          subst (λ o. Told c.args.meanings.now c.args.removed.now.names (state_at c.args.trace.now c.args.position) c.args.position (c.loop-number.number + 1)
          o.items) (sym w.names-is)
          (one_hidden c.args.meanings.now c.args.removed.now.names (state_at c.args.trace.now c.args.position)
          c.args.position c.loop-number.number c.loop-number.names.items c.loop-number.invariant (sym (read c) ∙ w.if-shows.false))
    ]

pub returns : goal.returns
returns c =
    all_shown c.args.meanings.now c.args.removed.now.names (state_at c.args.trace.now c.args.position)
    c.args.position c.loop-number.number c.loop-number.names.items c.in_ok-state.state c.loop-number.invariant
    (let same = ap length c.deref-source-items.ensures.value in omega arith) c.in_ok-state.ensures.members
