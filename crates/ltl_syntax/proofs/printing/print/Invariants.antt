use Rattle.std.proofs.Common.{◌≡◌, ◌++◌}
use Rattle.ltl_syntax.specs.Table.{tree_at}
use Rattle.ltl_syntax.specs.Print.{text_of}
use Rattle.ltl_syntax.specs.Stack.{works_text, works_size, AreWorks}
use Rattle.ltl_syntax.proofs.printing.print.Given as goal

abbrev pub invariant-loop-work : goal.invariant-loop-work
invariant-loop-work l = record {
  text : l.out.items ++ works_text l.table l.stack.items ≡ text_of (tree_at l.table l.root);
  works : AreWorks l.table l.stack.items;
}

abbrev pub decreases-loop-work : goal.decreases-loop-work
decreases-loop-work l = works_size l.table l.stack.items
