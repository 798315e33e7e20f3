use Rattle.std.proofs.Common.{◌≡◌, ◌≤◌, ◌++◌}
use Rattle.trace_view.specs.Text.{between, under}
use Rattle.trace_view.proofs.lines.add_loop_from.Given as goal

abbrev pub invariant-states : goal.invariant-states
invariant-states l = (l.from ≤ l.state) × (l.lines.items ≡ l.initial.lines.items ++ between l.from l.state (under l.grid l.measures l.start))
