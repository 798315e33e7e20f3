use Rattle.std.proofs.Common.{◌≡◌, ◌++◌, take}
use Rattle.std.specs.List.{flat_map}
use Rattle.claim_text.specs.Text.{claim_text}
use Rattle.claim_text.proofs.writing.push_claims.Given as goal

abbrev pub invariant-loop-index : goal.invariant-loop-index
invariant-loop-index l = l.out.items ≡ l.fn.out.items ++ flat_map claim_text (take l.index l.claims)
