use Rattle.std.proofs.Common.{◌≡◌, take}
use Rattle.ltl_syntax.proofs.replacing.nodes_of.Given as goal

abbrev pub invariant-numbers : goal.invariant-numbers
invariant-numbers l = l.nodes.items ≡ take l.number l.table.nodes
