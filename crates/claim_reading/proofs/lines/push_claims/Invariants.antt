use Rattle.std.proofs.Common.{◌≡◌, ◌++◌, take}
use Rattle.std.specs.List.{flat_map}
use Rattle.claim_reading.specs.Never.{never_line}
use Rattle.claim_reading.proofs.lines.push_claims.Given as goal

abbrev pub invariant-loop-index : goal.invariant-loop-index
invariant-loop-index l = l.out.items ≡ l.fn.out.items ++ flat_map (never_line l.closure.formula) (take l.index l.claims)
