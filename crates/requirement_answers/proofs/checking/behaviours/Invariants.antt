use Rattle.std.proofs.Common.{◌≡◌}
use Rattle.std.specs.List.{filter, range_with_len}
use Rattle.requirement_answers.specs.Asking.{covers_behaviour}
use Rattle.requirement_answers.proofs.checking.behaviours.Given as goal

abbrev pub invariant-behaviours : goal.invariant-behaviours
invariant-behaviours l = record { so_far : l.numbers.items ≡ filter (covers_behaviour l.scope) (range_with_len 0 l.number) }
