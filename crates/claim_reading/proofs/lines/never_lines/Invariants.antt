use Rattle.std.proofs.Common.{◌≡◌, map, take}
use Rattle.std.specs.List.{flat_map}
use Rattle.claim_check.specs.Data.{layer_in}
use Rattle.claim_reading.specs.Never.{layer_lines}
use Rattle.claim_reading.proofs.lines.never_lines.Given as goal

abbrev pub invariant-loop-layer : goal.invariant-loop-layer
invariant-loop-layer l = l.out.items ≡ flat_map (layer_lines l.closure.formula) (map layer_in (take l.layer-index l.certificate.layers.items))
