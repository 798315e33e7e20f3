use Rattle.std.proofs.Common.{◌≡◌, map, take}
use Rattle.requirement_report.specs.Letters.{use_in, use_among}
use Rattle.requirement_report.proofs.letters.uses_among.Given as goal

abbrev pub invariant-loop-letter : goal.invariant-loop-letter
invariant-loop-letter l = map use_in l.uses.items ≡ map (use_among l.sets) (take l.letter-index l.letters)
