use Rattle.std.proofs.Common.{◌≡◌, List, map, take}
use Rattle.serde_json.specs.View.{view}
use Rattle.ltl_word.specs.Trace.{Names}
use Rattle.ltl_word.specs.Json.{state_data, AreSetsOf}
use Rattle.ltl_word.proofs.json.read_states.Given as goal

abbrev pub invariant-loop-item : goal.invariant-loop-item
invariant-loop-item l = (all : List Names) × (map state_data all ≡ map view (take l.item-index l.item-items)) × AreSetsOf all l.states.items
