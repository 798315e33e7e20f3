use Rattle.std.proofs.Common.{◌≡◌, ◌++◌, drop}
use Rattle.requirement_report.specs.Lines.{first_lines}
use Rattle.requirement_report.proofs.lines.first_lines.Given as goal

abbrev pub invariant-loop-byte : goal.invariant-loop-byte
invariant-loop-byte l = l.lines.items ++ first_lines l.left (drop l.byte-index l.text) ≡ first_lines l.count l.text
