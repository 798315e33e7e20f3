use Rattle.std.proofs.Common.{◌≡◌, drop}
use Rattle.log_checker.proofs.Together.{found}
use Rattle.log_checker.proofs.lines.first_bad_of.Given as goal

abbrev pub invariant-areas : goal.invariant-areas
invariant-areas l = found l.areas.items ≡ found (drop l.index l.areas.items)
