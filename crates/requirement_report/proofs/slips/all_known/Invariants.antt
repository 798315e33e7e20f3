use Rattle.std.proofs.Common.{◌≡◌, map, take}
use Rattle.requirement_report.specs.Known.{known_in}
use Rattle.requirement_report.specs.Letters.{use_in}
use Rattle.requirement_report.specs.Slips.{known_of}
use Rattle.requirement_report.proofs.slips.all_known.Given as goal

abbrev pub invariant-loop-one : goal.invariant-loop-one
invariant-loop-one l = map known_in l.all.items ≡ map (λ u. known_of (use_in u)) (take l.one-index l.uses)
