use Rattle.std.proofs.Common.{◌≡◌, ◌≤◌, ◌++◌}
use Rattle.trace_view.specs.Text.{between, cell}
use Rattle.trace_view.proofs.lines.add_row.Given as goal

abbrev pub invariant-states : goal.invariant-states
invariant-states l = (l.from ≤ l.state) × (l.lines.items ≡ l.initial.lines.items ++ between l.from l.state (cell l.grid l.measures l.row))
