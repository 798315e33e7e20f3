use Rattle.std.proofs.Common.{◌≡◌, ◌++◌, drop, flat_map}
use Rattle.trace_view.specs.Text.{row_line}
use Rattle.trace_view.proofs.lines.add_rows.Given as goal

abbrev pub invariant-loop-row : goal.invariant-loop-row
invariant-loop-row l = l.lines.items ++ flat_map (row_line l.grid l.measures l.from l.to) (drop l.row-index l.grid.rows)
    ≡ l.fn.lines.items ++ flat_map (row_line l.grid l.measures l.from l.to) l.grid.rows
