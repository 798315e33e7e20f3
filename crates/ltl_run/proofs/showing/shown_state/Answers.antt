use Rattle.std.proofs.Common.{◌≡◌, sym, ◌∙◌, arith, length, ◌↔◌, ◌<◌, ℕ, List, Contains, [], get_or, false}
use Rattle.std.proofs.lemmas.List.{get_or_default}
use Rattle.ltl_run.specs.Shown.{IsChosen, HasChosen}
use Rattle.ltl_run.proofs.Collecting.{chosen_more, chosen_same, if_ok_more}
use Rattle.ltl_run.proofs.showing.shown_state.Goals.{then-holds+in_ok-new+in_ok-push, else-holds}
use Rattle.ltl_run.proofs.showing.shown_state.Goals as goal

pub loop-i-preserved : goal.loop-i-preserved
loop-i-preserved c =
    let lt : c.loop-i.i < length c.args.names.now = omega arith in
    let within : c.loop-i.i < length c.args.state.now.letters.items = omega arith in
    let value : get_or c.args.state.now.letters.items c.loop-i.i false ≡ c.index-holds.result.now =
    get_or_default c.args.state.now.letters.items c.loop-i.i false c.index-holds.result.now within ∙ sym c.index-holds.ensures in
    elim c.if-holds.branch [
      | then-holds+in_ok-new+in_ok-push w ↦
          let name : get_or c.args.names.now c.loop-i.i [] ≡ w.in_ok-new.field-0 =
          get_or_default c.args.names.now c.loop-i.i [] c.index-names-i.result lt ∙ (sym c.index-names-i.is ∙ (sym w.text.ensures ∙ sym w.in_ok-new.ensures)) in
          rw (w.chosen-is, w.in_ok-push.ensures.items) (chosen_more c.args.names.now c.args.state.now.letters.items c.loop-i.i c.loop-i.chosen.items
          c.loop-i.invariant w.in_ok-new.field-0 (value ∙ w.if-holds.true) name)
      | else-holds w ↦ rw w.chosen-is
          (chosen_same c.args.names.now c.args.state.now.letters.items c.loop-i.i c.loop-i.chosen.items c.loop-i.invariant (value ∙ w.if-holds.false))
    ]

pub returns : goal.returns
returns c =
    let e : c.loop-i.i ≡ length c.args.names.now = omega arith in
    let all : (name : List ℕ) → Contains c.loop-i.chosen.items name ↔ IsChosen c.args.names.now c.args.state.now.letters.items (length c.args.names.now) name =
    rw e at c.loop-i.invariant in
    let f : (shown : List (List ℕ)) → ((name : List ℕ) → Contains shown name ↔ Contains c.loop-i.chosen.items name)
    → HasChosen c.args.names.now c.args.state.now shown =
    λ shown h name. let v = h name in let u = all name in (λ x. u.0 (v.0 x), λ x. v.1 (u.1 x)) in
    if_ok_more f c.from_names.result c.from_names.ensures.members
