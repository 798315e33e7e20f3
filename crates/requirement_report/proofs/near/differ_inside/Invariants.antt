use Rattle.std.proofs.Common.{◌≡◌, drop, false}
use Rattle.requirement_report.specs.Slips.{differ_inside}
use Rattle.requirement_report.proofs.near.differ_inside.Given as goal

abbrev pub invariant-places : goal.invariant-places
invariant-places l = differ_inside l.inside (drop l.place l.xs) (drop l.place l.ys) ≡ differ_inside false l.xs l.ys
