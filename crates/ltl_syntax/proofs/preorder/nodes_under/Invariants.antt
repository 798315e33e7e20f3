use Rattle.std.proofs.Common.{◌≡◌, ◌<◌, ◌++◌, All, length}
use Rattle.ltl_syntax.specs.Flat.{order_at}
use Rattle.ltl_syntax.specs.Pending.{pending}
use Rattle.ltl_syntax.proofs.preorder.nodes_under.Given as goal

abbrev pub invariant-loop-number : goal.invariant-loop-number
invariant-loop-number l = record {
  order : l.order.items ++ pending l.table l.stack.items ≡ order_at l.table l.root;
  stack : All (λ n. n < length l.table.nodes) l.stack.items;
}

abbrev pub decreases-loop-number : goal.decreases-loop-number
decreases-loop-number l = length (pending l.table l.stack.items)
