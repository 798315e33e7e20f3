use Rattle.std.proofs.Common.{◌∷◌, ◌++◌, [], refl, sym, ap, ◌∙◌}
use Rattle.toml.specs.View.{view}
use Rattle.requirement_document.specs.Entry.{state_data}
use Rattle.ltl_word.proofs.Parts.{sets_more}
use Rattle.requirement_document.proofs.Stating.{no_array_of, map_more, no_state, some_state}
use Rattle.requirement_document.proofs.states.states_of.Goals as goal

pub returns-in_default-2 : goal.returns-in_default-2
returns-in_default-2 c =
    no_array_of state_data (view c.args.value.now)
    c.in-Some.items.now.items c.deref-item-items.result.now c.loop-item.item-index c.item-item.result c.in-Some.ensures c.deref-item-items.ensures.value
    c.loop-item-test.true c.item-item.is (no_state (view c.item-item.result) c.in_ok-state.field-0 c.in_default-2.not-Some c.in_ok-state.ensures)

pub loop-item-preserved : goal.loop-item-preserved
loop-item-preserved c =
    let inv = c.loop-item.invariant in
    let items = c.deref-item-items.result.now in
    let one = some_state (view c.item-item.result) c.in_ok-state.field-0 c.in-Some-2.state c.in-Some-2.is c.in_ok-state.ensures in
    let all = inv.0 ++ one.0 ∷ [] in (
      all,
      map_more state_data view inv.0 all one.0 items c.loop-item.item-index c.item-item.result inv.1 refl c.loop-item-test.true
          (sym one.1 ∙ ap view c.item-item.is),
      sets_more inv.0 c.loop-item.states.items c.push.new.self.items one.0 c.in-Some-2.state inv.2 one.2 c.in_ok-push.ensures.items,
    )
