use Rattle.std.proofs.Common.{◌≡◌, take}
use Rattle.ltl_syntax.proofs.replacing.assembled.Given as goal

abbrev pub invariant-nodes : goal.invariant-nodes
invariant-nodes l = record {
  nodes : l.copy.nodes ≡ take l.index l.nodes.items;
  names : l.copy.names ≡ l.table.names;
}
