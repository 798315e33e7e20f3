use Rattle.std.proofs.Common.{All}
use Rattle.demand.specs.Constraints.{IsOf}
use Rattle.demand.proofs.refusing.push_places.Given as goal

abbrev pub invariant-loop-place : goal.invariant-loop-place
invariant-loop-place l = All (IsOf l.rows) l.found.items
