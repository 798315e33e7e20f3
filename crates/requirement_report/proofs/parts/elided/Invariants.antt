use Rattle.std.proofs.Common.{◌≡◌, ◌++◌, drop, false}
use Rattle.requirement_report.specs.Parts.{elided_from}
use Rattle.requirement_report.proofs.parts.elided.Given as goal

abbrev pub invariant-loop-byte : goal.invariant-loop-byte
invariant-loop-byte l = l.out.items ++ elided_from l.inside (drop l.byte-index l.text) ≡ elided_from false l.text
