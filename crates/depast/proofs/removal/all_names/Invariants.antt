use Rattle.std.proofs.Common.{◌≡◌, ℕ, ◌<◌, [], length, slice_index_or}
use Rattle.depast.specs.Names.{new_name}
use Rattle.depast.proofs.removal.all_names.Given as goal

abbrev pub invariant-loop-number : goal.invariant-loop-number
invariant-loop-number l = record {
  long : length l.all.items ≡ l.number;
  each : (k : ℕ) → k < l.number → slice_index_or l.all.items k [] ≡ new_name l.names.most k;
}
