use Rattle.std.proofs.Common.{◌≡◌, ℕ, length, slice_get, Some}
use Rattle.ltl_syntax.specs.Table.{tree_at}
use Rattle.requirement_document.specs.Inner.{defined_in, HasSize}
use Rattle.requirement_document.proofs.sizes.size_of.Given as goal

abbrev pub invariant-nodes : goal.invariant-nodes
invariant-nodes l = record {
  count : length l.sizes.items ≡ l.number;
  each : (i n : ℕ) → slice_get l.sizes.items i ≡ Some n → HasSize (defined_in l.definitions.entries) (tree_at l.table i) n;
}
