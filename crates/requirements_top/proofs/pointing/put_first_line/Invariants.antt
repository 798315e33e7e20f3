use Rattle.std.proofs.Common.{◌≡◌, ◌++◌, drop}
use Rattle.requirements_top.specs.Pointing.{first_line}
use Rattle.requirements_top.proofs.pointing.put_first_line.Given as goal

abbrev pub invariant-loop-byte : goal.invariant-loop-byte
invariant-loop-byte l = l.line.items ++ first_line (drop l.byte-index l.text) ≡ l.fn.line.items ++ first_line l.text
