use Rattle.std.proofs.Common.{◌≡◌, true, [], drop}
use Rattle.requirements_top.specs.Hints.{word_so_far}
use Rattle.requirements_top.proofs.hints.last_word.Given as goal

abbrev pub invariant-loop-byte : goal.invariant-loop-byte
invariant-loop-byte l = word_so_far l.ended l.word.items (drop l.byte-index l.text) ≡ word_so_far true [] l.text
