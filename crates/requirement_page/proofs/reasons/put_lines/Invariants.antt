use Rattle.std.proofs.Common.{◌≡◌, ◌++◌, drop}
use Rattle.requirement_page.specs.Reasons.{claims_from}
use Rattle.requirement_page.proofs.reasons.put_lines.Given as goal

abbrev pub invariant-loop-byte : goal.invariant-loop-byte
invariant-loop-byte l = l.out.items ++ claims_from l.left (drop l.byte-index l.lines) ≡ l.fn.out.items ++ claims_from 6 l.lines
