use Rattle.std.proofs.Common.{◌≡◌, ◌++◌, drop, true}
use Rattle.requirement_report.specs.Lines.{indented}
use Rattle.requirement_report.proofs.lines.put_indented.Given as goal

abbrev pub invariant-loop-byte : goal.invariant-loop-byte
invariant-loop-byte l = l.out.items ++ indented l.begins (drop l.byte-index l.text) ≡ l.fn.out.items ++ indented true l.text
