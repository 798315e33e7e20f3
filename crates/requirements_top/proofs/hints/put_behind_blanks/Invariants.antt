use Rattle.std.proofs.Common.{◌≡◌, ◌++◌, drop, flat_map}
use Rattle.requirements_top.specs.Hints.{behind_blank}
use Rattle.requirements_top.proofs.hints.put_behind_blanks.Given as goal

abbrev pub invariant-loop-byte : goal.invariant-loop-byte
invariant-loop-byte l = l.out.items ++ flat_map behind_blank (drop l.byte-index l.word) ≡ l.fn.out.items ++ flat_map behind_blank l.word
