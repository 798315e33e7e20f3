use Rattle.std.proofs.Common.{◌≡◌, [], take}
use Rattle.ltl_syntax.proofs.replacing.named.Given as goal

abbrev pub invariant-letters : goal.invariant-letters
invariant-letters l = record {
  nodes : l.copy.nodes ≡ [];
  names : l.copy.names ≡ take l.letter l.table.names;
}
