use Rattle.std.proofs.Common.{◌≡◌, length}
use Rattle.ltl_syntax.specs.Table.{tree_at}
use Rattle.requirement_document.specs.Substitution.{substituted}
use Rattle.requirement_document.specs.Inner.{AreAt, defined_in}
use Rattle.requirement_document.proofs.putting.put_in.Given as goal

abbrev pub invariant-nodes : goal.invariant-nodes
invariant-nodes l = record {
  count : length l.numbers.items ≡ l.number;
  each : AreAt (λ i. substituted (defined_in l.definitions.entries) (tree_at l.source i)) l.target l.numbers.items;
}
