use Rattle.std.proofs.Common.{◌≡◌}
use Rattle.trace_view.specs.Text.{below, block_at}
use Rattle.trace_view.proofs.lines.text.Given as goal

abbrev pub invariant-states : goal.invariant-states
invariant-states l = l.lines.items ≡ below l.state (block_at l.grid l.measures)
