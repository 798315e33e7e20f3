use Rattle.std.proofs.Common.{◌≡◌, take}
use Rattle.ltl_closure.specs.Groups.{group_numbers}
use Rattle.ltl_closure.proofs.group.Group.numbers.Given as goal

abbrev pub invariant-loop-i : goal.invariant-loop-i
invariant-loop-i l = l.numbers.items ≡ group_numbers l.self 1 (take l.i l.entries)
