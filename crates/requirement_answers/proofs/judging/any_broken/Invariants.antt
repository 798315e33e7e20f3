use Rattle.std.proofs.Common.{◌≡◌, false, take}
use Rattle.std.specs.List.{list_any}
use Rattle.requirement_answers.specs.Verdicts.{has_break}
use Rattle.requirement_answers.proofs.judging.any_broken.Given as goal

abbrev pub invariant-checks : goal.invariant-checks
invariant-checks l = record { none : list_any has_break (take l.k l.checks) ≡ false }
