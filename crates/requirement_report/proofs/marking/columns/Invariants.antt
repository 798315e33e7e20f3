use Rattle.std.proofs.Common.{◌≡◌, map, take}
use Rattle.requirement_report.specs.Pictures.{column}
use Rattle.requirement_report.proofs.marking.columns.Given as goal

abbrev pub invariant-loop-position : goal.invariant-loop-position
invariant-loop-position l = l.columns.items ≡ map (column l.trace) (take l.position-index l.positions)
