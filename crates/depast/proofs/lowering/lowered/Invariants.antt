use Rattle.std.proofs.Common.{◌≡◌, ℕ, ◌<◌, [], length, slice_index_or}
use Rattle.depast.specs.States.{AreOthers}
use Rattle.depast.proofs.lowering.lowered.Given as goal

abbrev pub invariant-loop-state : goal.invariant-loop-state
invariant-loop-state l = record {
  long : length l.lowered.items ≡ l.state-index;
  each : (i : ℕ) → i < l.state-index → AreOthers l.new (slice_index_or l.states i []) (slice_index_or l.lowered.items i []);
}
