use Rattle.std.proofs.Common.{◌≡◌, ◌++◌, drop, flat_map}
use Rattle.requirements_top.specs.Pointing.{blank_for}
use Rattle.requirements_top.proofs.pointing.put_blanks.Given as goal

abbrev pub invariant-loop-byte : goal.invariant-loop-byte
invariant-loop-byte l = l.line.items ++ flat_map blank_for (drop l.byte-index l.text) ≡ l.fn.line.items ++ flat_map blank_for l.text
