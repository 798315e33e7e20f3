use Rattle.std.proofs.Common.{◌≡◌, ◌++◌, drop}
use Rattle.trace_view.specs.Diagram.{lanes_from}
use Rattle.trace_view.proofs.diagram.add_lanes.Given as goal

abbrev pub invariant-loop-row : goal.invariant-loop-row
invariant-loop-row l =
    (l.lane ≡ l.row-index)
    × (l.svg.items ++ lanes_from l.names l.grid.states l.lane (drop l.row-index l.grid.rows) ≡ l.fn.svg.items ++ lanes_from l.names l.grid.states 0 l.grid.rows)
