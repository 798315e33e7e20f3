use Rattle.std.proofs.Common.{◌≡◌, ◌++◌, drop}
use Rattle.trace_view.specs.Letters.{all_names}
use Rattle.trace_view.proofs.letters.push_states.Given as goal

abbrev pub invariant-loop-state : goal.invariant-loop-state
invariant-loop-state l = l.names.items ++ all_names (drop l.state-index l.states) ≡ l.fn.names.items ++ all_names l.states
