use Rattle.std.proofs.Common.{◌≡◌, ◌++◌, map, take}
use Rattle.ltl_closure.specs.Entries.{entry_at}
use Rattle.demand.specs.Entries.{operand_by}
use Rattle.demand.proofs.entries.push_operands.Given as goal

abbrev pub invariant-loop-number : goal.invariant-loop-number
invariant-loop-number l = l.numbers.items ≡ l.fn.numbers.items ++ map (λ t. operand_by l.which t (entry_at l.entries t)) (take l.number-index l.of)
