use Rattle.std.proofs.Common.{refl, ◌++◌, ◌∷◌, [], sym, ap, ◌∙◌}
use Rattle.serde_json.specs.View.{view}
use Rattle.ltl_word.specs.Json.{state_data}
use Rattle.ltl_word.proofs.Forms.{no_array_of}
use Rattle.ltl_word.proofs.Parts.{states_fault, sets_more}
use Rattle.ltl_word.proofs.Prefixes.{map_more}
use Rattle.ltl_word.proofs.json.read_states.Goals as goal

pub returns-in_err-read_state : goal.returns-in_err-read_state
returns-in_err-read_state c =
    states_fault (view c.args.value.now) (view c.item-item.result) c.in_err-read_state.field-0.0 c.from_residual-in_err-read_state.result
    (λ all formless. no_array_of state_data (view c.args.value.now) c.in-Some.items.now.items c.deref-item-items.result.now c.loop-item.item-index
    c.item-item.result c.in-Some.ensures c.deref-item-items.ensures.value c.loop-item-test.true c.item-item.is formless all)
    c.in_err-read_state.ensures c.from_residual-in_err-read_state.ensures

pub loop-item-preserved : goal.loop-item-preserved
loop-item-preserved c =
    let all = c.loop-item.invariant.0 in
    let read = c.in_ok-read_state.ensures in (
      all ++ read.0 ∷ [],
      map_more state_data view all (all ++ read.0 ∷ []) read.0 c.deref-item-items.result.now c.loop-item.item-index c.item-item.result c.loop-item.invariant.1
          refl c.loop-item-test.true (sym read.1 ∙ ap view c.item-item.is),
      sets_more all c.loop-item.states.items c.push.new.self.items read.0 c.in_ok-read_state.field-0 c.loop-item.invariant.2 read.2 c.in_ok-push.ensures.items,
    )
