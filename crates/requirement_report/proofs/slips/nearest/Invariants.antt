use Rattle.std.proofs.Common.{◌≡◌, map, drop}
use Rattle.requirement_report.specs.Known.{known_in}
use Rattle.requirement_report.specs.Slips.{nearest_known}
use Rattle.requirement_report.proofs.slips.nearest.Given as goal

abbrev pub invariant-loop-other : goal.invariant-loop-other
invariant-loop-other l = nearest_known (map known_in (drop l.other-index l.all)) (known_in l.one) ≡ nearest_known (map known_in l.all) (known_in l.one)
