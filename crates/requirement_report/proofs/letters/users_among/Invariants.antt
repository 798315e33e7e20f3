use Rattle.std.proofs.Common.{◌≡◌}
use Rattle.requirement_report.specs.Letters.{users_among}
use Rattle.requirement_report.proofs.letters.users_among.Given as goal

abbrev pub invariant-sets : goal.invariant-sets
invariant-sets l = l.users.items ≡ users_among l.sets l.letter l.number
