use Rattle.std.proofs.Common.{◌≡◌, take, map, All, subst, ap, ◌∙◌}
use Rattle.std.proofs.lemmas.List.{take_all}
use Rattle.std.proofs.lemmas.List.Elements.{All-more}
use Rattle.serde_json.proofs.Views.{view-Array}
use Rattle.serde_json.specs.Data.{array}
use Rattle.serde_json.specs.View.{view, items_of}
use Rattle.ltl_word.specs.State.{IsAscending}
use Rattle.ltl_word.specs.Json.{state_data}
use Rattle.ltl_word.proofs.Written.{sets_of_themselves}
use Rattle.ltl_word.proofs.Prefixes.{map_more}
use Rattle.ltl_word.proofs.json.states_value.Goals as goal

pub loop-state-preserved : goal.loop-state-preserved
loop-state-preserved c =
    let item = c.state-item.result in
    let more = c.loop-state-test.true in (
      map_more view state_data c.loop-state.items.items c.push.new.self.items c.in_ok-state_value.field-0 c.args.states.now c.loop-state.state-index item
          c.loop-state.invariant.0 c.in_ok-push.ensures.items more
          (c.in_ok-state_value.ensures.value ∙ ap state_data c.state-item.is),
      All-more IsAscending c.args.states.now c.loop-state.state-index item more c.loop-state.invariant.1
          (subst IsAscending c.state-item.is c.state_value.ensures.ascending),
    )

pub returns-clause-value : goal.returns-clause-value
returns-clause-value c =
    let whole : take c.loop-state.state-index c.args.states.now ≡ c.args.states.now =
    take_all c.loop-state.state-index c.args.states.now c.loop-state-test.false in
    view-Array c.loop-state.items ∙ ap (λ ds. array (items_of ds)) (c.loop-state.invariant.0 ∙ ap (map state_data) whole)

pub returns-clause-sets : goal.returns-clause-sets
returns-clause-sets c =
    let whole : take c.loop-state.state-index c.args.states.now ≡ c.args.states.now =
    take_all c.loop-state.state-index c.args.states.now c.loop-state-test.false in
    sets_of_themselves c.args.states.now (subst (All IsAscending) whole c.loop-state.invariant.1)
