use Rattle.std.proofs.Common.{◌≡◌}
use Rattle.certificate_tests.proofs.lines.take_all.Given as goal

abbrev pub invariant-items : goal.invariant-items
invariant-items l = (goal.iterator-items).can_next l.item-iterator × (goal.iterator-items).is_finite l.item-iterator × (l.checker.letters ≡ 6)
