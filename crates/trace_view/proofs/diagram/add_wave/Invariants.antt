use Rattle.std.proofs.Common.{◌≡◌, ◌++◌}
use Rattle.trace_view.specs.Text.{below}
use Rattle.trace_view.specs.Diagram.{stroke}
use Rattle.trace_view.proofs.diagram.add_wave.Given as goal

abbrev pub invariant-states : goal.invariant-states
invariant-states l = l.svg.items ≡ l.initial.svg.items ++ below l.state (stroke l.names l.lane l.row)
