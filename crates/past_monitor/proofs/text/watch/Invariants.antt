use Rattle.std.specs.Option.{option_copied}
use Rattle.ltl_syntax.specs.Table.{tree_at}
use Rattle.past_monitor.specs.Text.{bytes_left}
use Rattle.past_monitor.proofs.Watching.{IsWatching}
use Rattle.past_monitor.proofs.text.watch.Given as goal

abbrev pub invariant-loop-rest : goal.invariant-loop-rest
invariant-loop-rest l = IsWatching (tree_at l.table l.root) l.fn.text (option_copied l.rest) l.monitor l.answers.items l.number

abbrev pub decreases-loop-rest : goal.decreases-loop-rest
decreases-loop-rest l = bytes_left (option_copied l.rest)
