use Rattle.past_monitor.proofs.Placing.{ArePlaced}
use Rattle.past_monitor.proofs.under.parts_of.Given as goal

abbrev pub invariant-loop-number : goal.invariant-loop-number
invariant-loop-number l = ArePlaced l.table l.marks l.number l.places.items l.parts.items
