use Rattle.std.proofs.Common.{◌≡◌, length}
use Rattle.ltl_syntax.specs.Table.{tree_at}
use Rattle.requirement_document.specs.Inner.{AreAt, Keeps}
use Rattle.requirement_document.proofs.putting.copy.Given as goal

abbrev pub invariant-nodes : goal.invariant-nodes
invariant-nodes l = record {
  count : length l.numbers.items ≡ l.number;
  each : AreAt (λ i. tree_at l.source i) l.target l.numbers.items;
  keeps : Keeps l.fn.target l.target;
}
