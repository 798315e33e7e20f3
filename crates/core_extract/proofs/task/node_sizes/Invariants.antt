use Rattle.std.proofs.Common.{◌≡◌, ℕ, ◌<◌, length, get_or}
use Rattle.ltl_syntax.specs.Formula.{nodes_in}
use Rattle.ltl_syntax.specs.Table.{tree_at}
use Rattle.core_extract.proofs.task.node_sizes.Given as goal

abbrev pub invariant-nodes : goal.invariant-nodes
invariant-nodes l = record {
  long : length l.sizes.items ≡ l.number;
  each : (k : ℕ) → k < l.number → get_or l.sizes.items k 0 ≡ nodes_in (tree_at l.table k);
}
