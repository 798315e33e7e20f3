use Rattle.std.proofs.Common.{◌≡◌, ◌++◌, drop}
use Rattle.requirement_report.specs.Slips.{folded}
use Rattle.requirement_report.proofs.near.put_folded.Given as goal

abbrev pub invariant-loop-byte : goal.invariant-loop-byte
invariant-loop-byte l = l.out.items ++ folded (drop l.byte-index l.bytes) ≡ l.fn.out.items ++ folded l.bytes
