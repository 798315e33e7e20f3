use Rattle.std.proofs.Common.{◌≡◌, ◌++◌, drop}
use Rattle.requirements_top.specs.Hints.{first_word}
use Rattle.requirements_top.proofs.hints.first_word.Given as goal

abbrev pub invariant-loop-byte : goal.invariant-loop-byte
invariant-loop-byte l = l.word.items ++ first_word (drop l.byte-index l.text) ≡ first_word l.text
