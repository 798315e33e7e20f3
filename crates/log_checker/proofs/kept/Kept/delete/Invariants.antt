use Rattle.std.proofs.Common.{◌≡◌}
use Rattle.log_checker.specs.Kept.{without}
use Rattle.log_checker.proofs.kept.Kept.delete.Given as goal

abbrev pub invariant-numbers : goal.invariant-numbers
invariant-numbers l =
    (goal.iterator-numbers).can_next l.rest × (goal.iterator-numbers).is_finite l.rest × (without l.self l.rest ≡ without l.fn.self l.fn.lines)
