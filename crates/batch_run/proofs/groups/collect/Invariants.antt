use Rattle.std.proofs.Common.{take}
use Rattle.batch_run.specs.Grouping.{HasOutcomes}
use Rattle.batch_run.proofs.groups.collect.Given as goal

abbrev pub invariant-places : goal.invariant-places
invariant-places l = HasOutcomes l.lanes.items (take l.index l.lines.items) l.fn.answers.items l.answers.items
