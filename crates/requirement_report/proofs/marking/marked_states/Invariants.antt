use Rattle.std.proofs.Common.{◌≡◌, ◌++◌, drop}
use Rattle.requirement_report.specs.Pictures.{marked_states}
use Rattle.requirement_report.proofs.marking.marked_states.Given as goal

abbrev pub invariant-places : goal.invariant-places
invariant-places l = l.made.items ++ marked_states l.columns l.from l.place (drop l.place l.states) ≡ marked_states l.columns l.from 0 l.states
