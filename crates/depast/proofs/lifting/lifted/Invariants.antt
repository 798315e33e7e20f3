use Rattle.std.proofs.Common.{◌≡◌, ℕ, ◌+◌, ◌<◌, [], length, slice_index_or}
use Rattle.ltl_word.specs.Trace.{state_at}
use Rattle.depast.specs.Sources.{IsLiftedState}
use Rattle.depast.proofs.lifting.lifted.Given as goal

abbrev pub invariant-loop-position : goal.invariant-loop-position
invariant-loop-position l = record {
  long : l.first + length l.states.items ≡ l.position;
  each : (i : ℕ) → i < length l.states.items
      → IsLiftedState l.meanings l.removed.names (state_at l.trace (l.first + i)) (l.first + i) (slice_index_or l.states.items i []);
}
