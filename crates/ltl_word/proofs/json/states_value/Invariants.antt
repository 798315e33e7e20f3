use Rattle.std.proofs.Common.{◌≡◌, map, take, All}
use Rattle.serde_json.specs.View.{view}
use Rattle.ltl_word.specs.State.{IsAscending}
use Rattle.ltl_word.specs.Json.{state_data}
use Rattle.ltl_word.proofs.json.states_value.Given as goal

abbrev pub invariant-loop-state : goal.invariant-loop-state
invariant-loop-state l = (map view l.items.items ≡ map state_data (take l.state-index l.states)) × All IsAscending (take l.state-index l.states)
