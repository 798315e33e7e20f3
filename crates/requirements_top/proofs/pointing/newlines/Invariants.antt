use Rattle.std.proofs.Common.{◌≡◌, ◌≤◌, ◌+◌, drop}
use Rattle.requirement_report.specs.Lines.{lines_in}
use Rattle.requirements_top.proofs.pointing.newlines.Given as goal

abbrev pub invariant-loop-byte : goal.invariant-loop-byte
invariant-loop-byte l = (l.count + lines_in (drop l.byte-index l.text) ≡ lines_in l.text) × (l.count ≤ l.byte-index)
