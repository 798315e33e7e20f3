use Rattle.std.proofs.Common.{◌≡◌, List, map, take}
use Rattle.toml.specs.View.{view}
use Rattle.ltl_word.specs.Trace.{Names}
use Rattle.ltl_word.specs.Json.{AreSetsOf}
use Rattle.requirement_document.specs.Entry.{state_data}
use Rattle.requirement_document.proofs.states.states_of.Given as goal

abbrev pub invariant-loop-item : goal.invariant-loop-item
invariant-loop-item l = (all : List Names) × (map state_data all ≡ map view (take l.item-index l.item-items)) × AreSetsOf all l.states.items
