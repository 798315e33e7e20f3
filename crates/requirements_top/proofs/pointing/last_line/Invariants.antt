use Rattle.std.proofs.Common.{◌≡◌, [], drop}
use Rattle.requirements_top.specs.Pointing.{line_so_far}
use Rattle.requirements_top.proofs.pointing.last_line.Given as goal

abbrev pub invariant-loop-byte : goal.invariant-loop-byte
invariant-loop-byte l = line_so_far l.line.items (drop l.byte-index l.text) ≡ line_so_far [] l.text
