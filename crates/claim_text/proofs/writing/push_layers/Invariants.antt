use Rattle.std.proofs.Common.{◌≡◌, ◌++◌, map, take}
use Rattle.std.specs.List.{flat_map}
use Rattle.claim_check.specs.Data.{layer_in}
use Rattle.claim_text.specs.Text.{layer_text}
use Rattle.claim_text.proofs.writing.push_layers.Given as goal

abbrev pub invariant-loop-layer : goal.invariant-loop-layer
invariant-loop-layer l = l.out.items ≡ l.fn.out.items ++ flat_map layer_text (map layer_in (take l.layer-index l.layers))
