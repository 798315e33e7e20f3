use Rattle.std.proofs.Common.{All}
use Rattle.demand.specs.Constraints.{IsOf}
use Rattle.demand.proofs.refusing.push_fulfilments.Given as goal

abbrev pub invariant-loop-wait : goal.invariant-loop-wait
invariant-loop-wait l = All (IsOf l.rows) l.found.items
