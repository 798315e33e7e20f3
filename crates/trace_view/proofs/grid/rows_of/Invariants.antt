use Rattle.std.proofs.Common.{◌≡◌, map, take, All}
use Rattle.trace_view.specs.Grid.{RowValue, IsRowOf}
use Rattle.trace_view.proofs.grid.rows_of.Given as goal

abbrev pub invariant-loop-letter : goal.invariant-loop-letter
invariant-loop-letter l = (map (λ (r : RowValue). r.name) l.rows.items ≡ take l.letter-index l.letters) × All (IsRowOf l.trace) l.rows.items
