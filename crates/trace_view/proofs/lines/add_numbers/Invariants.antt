use Rattle.std.proofs.Common.{◌≡◌, ◌≤◌, ◌++◌}
use Rattle.trace_view.specs.Text.{between, number}
use Rattle.trace_view.proofs.lines.add_numbers.Given as goal

abbrev pub invariant-states : goal.invariant-states
invariant-states l = (l.from ≤ l.state) × (l.lines.items ≡ l.initial.lines.items ++ between l.from l.state (number l.grid l.measures))
