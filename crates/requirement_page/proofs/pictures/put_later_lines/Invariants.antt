use Rattle.std.proofs.Common.{◌≡◌, ◌++◌, drop, false}
use Rattle.requirement_page.specs.Pictures.{later_lines}
use Rattle.requirement_page.proofs.pictures.put_later_lines.Given as goal

abbrev pub invariant-loop-byte : goal.invariant-loop-byte
invariant-loop-byte l = l.out.items ++ later_lines l.ended (drop l.byte-index l.text) ≡ l.fn.out.items ++ later_lines false l.text
