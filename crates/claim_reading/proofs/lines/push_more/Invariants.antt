use Rattle.std.proofs.Common.{◌≡◌, ◌++◌, map, take}
use Rattle.std.specs.List.{flat_map}
use Rattle.claim_reading.specs.Never.{denied, behind_and}
use Rattle.claim_reading.proofs.lines.push_more.Given as goal

abbrev pub invariant-loop-literal : goal.invariant-loop-literal
invariant-loop-literal l = l.out.items ≡ l.fn.out.items ++ flat_map behind_and (map (denied l.closure.formula) (take l.literal-index l.literals))
