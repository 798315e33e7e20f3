use Rattle.std.proofs.Common.{◌≡◌, map, take}
use Rattle.serde_json.specs.View.{view}
use Rattle.requirement_document.specs.Values.{item_in}
use Rattle.requirement_json.specs.Items.{item_data}
use Rattle.requirement_json.proofs.items.items_value.Given as goal

abbrev pub invariant-loop-item : goal.invariant-loop-item
invariant-loop-item l = map view l.values.items ≡ map item_data (map item_in (take l.item-index l.items))
