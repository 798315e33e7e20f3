use Rattle.std.proofs.Common.{◌≡◌, ◌++◌}
use Rattle.ltl_syntax.specs.Table.{tree_at}
use Rattle.requirement_report.specs.Letters.{letters_of}
use Rattle.requirement_report.specs.Walk.{stack_letters, stack_size, AreNodes}
use Rattle.requirement_report.proofs.walks.put_letters.Given as goal

abbrev pub invariant-loop-number : goal.invariant-loop-number
invariant-loop-number l = record {
  letters : l.names.items ++ stack_letters l.table l.stack.items ≡ l.fn.names.items ++ letters_of (tree_at l.table l.root);
  nodes : AreNodes l.table l.stack.items;
}

abbrev pub decreases-loop-number : goal.decreases-loop-number
decreases-loop-number l = stack_size l.table l.stack.items
