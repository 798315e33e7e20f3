use Rattle.std.proofs.Common.{◌≡◌, map, take}
use Rattle.toml.specs.View.{view}
use Rattle.toml.specs.Data.{string}
use Rattle.requirement_document.proofs.states.state_of.Given as goal

abbrev pub invariant-loop-item : goal.invariant-loop-item
invariant-loop-item l = map string l.names.items ≡ map view (take l.item-index l.item-items)
