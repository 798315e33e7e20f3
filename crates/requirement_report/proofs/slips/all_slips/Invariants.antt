use Rattle.std.proofs.Common.{◌≡◌, ◌++◌, map, drop, flat_map}
use Rattle.requirement_report.specs.Known.{known_in}
use Rattle.requirement_report.specs.Letters.{use_in}
use Rattle.requirement_report.specs.Slips.{slip_in, slip_of, known_of, nearest_known}
use Rattle.requirement_report.proofs.slips.all_slips.Given as goal

abbrev pub invariant-loop-one : goal.invariant-loop-one
invariant-loop-one l =
    map slip_in l.slips.items
    ++ flat_map (λ u. slip_of (use_in u) (nearest_known (map known_in l.known.items) (known_of (use_in u)))) (drop l.one-index l.uses)
    ≡ flat_map (λ u. slip_of (use_in u) (nearest_known (map known_in l.known.items) (known_of (use_in u)))) l.uses
