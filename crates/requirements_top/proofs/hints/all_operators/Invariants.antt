use Rattle.std.proofs.Common.{◌≡◌, true, take}
use Rattle.std.specs.List.{list_all}
use Rattle.requirements_top.specs.Hints.{is_operator}
use Rattle.requirements_top.proofs.hints.all_operators.Given as goal

abbrev pub invariant-bytes : goal.invariant-bytes
invariant-bytes l = record { all : list_all is_operator (take l.k l.word) ≡ true }
