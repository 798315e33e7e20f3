use Rattle.std.proofs.Common.{◌≡◌, map, take}
use Rattle.serde_json.specs.View.{view}
use Rattle.ltl_word.specs.Json.{state_data}
use Rattle.requirement_json.proofs.traces.states_value.Given as goal

abbrev pub invariant-loop-state : goal.invariant-loop-state
invariant-loop-state l = map view l.values.items ≡ map state_data (take l.state-index l.states)
