use Rattle.ltl_parser.specs.Standing.{Becomes, to_make}
use Rattle.ltl_parser.proofs.reduce.reduce.Given as goal

abbrev pub invariant-loop-node : goal.invariant-loop-node
invariant-loop-node l = Becomes l.fn.level l.fn.table l.fn.stack l.fn.operand l.table l.stack l.operand

abbrev pub decreases-loop-node : goal.decreases-loop-node
decreases-loop-node l = to_make l.stack
