use Rattle.std.proofs.Common.{All}
use Rattle.demand.specs.Constraints.{IsOf}
use Rattle.demand.proofs.refusing.refuse_loops.Given as goal

abbrev pub invariant-loop-earlier : goal.invariant-loop-earlier
invariant-loop-earlier l = All (IsOf l.rows) l.found.items
