use Rattle.std.proofs.Common.{◌≡◌, ◌↔◌, ℕ, ◌<◌, [], false, length, slice_index_or, IsTrue, Contains}
use Rattle.trace_view.proofs.grid.cells_of.Given as goal

abbrev pub invariant-loop-state : goal.invariant-loop-state
invariant-loop-state l = (length l.cells.items ≡ l.state-index)
    × ((k : ℕ) → k < l.state-index → IsTrue (slice_index_or l.cells.items k false) ↔ Contains (slice_index_or l.states k []) l.name)
