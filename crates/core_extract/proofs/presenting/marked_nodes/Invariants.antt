use Rattle.std.proofs.Common.{◌<◌, All, length}
use Rattle.core_extract.proofs.Marks.{AreNodes}
use Rattle.core_extract.proofs.presenting.marked_nodes.Given as goal

abbrev pub invariant-places : goal.invariant-places
invariant-places l = record {
  within : All (λ n. n < length l.task.table.now.nodes) l.numbers.items;
  nodes : AreNodes l.task.order.items l.marks.items l.place l.numbers.items;
}
