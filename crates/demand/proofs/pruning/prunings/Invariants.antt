use Rattle.std.proofs.Common.{◌≡◌}
use Rattle.demand.specs.Rows.{rows_in}
use Rattle.demand.specs.Pruning.{prunings_below}
use Rattle.demand.proofs.pruning.prunings.Given as goal

abbrev pub invariant-loop-state : goal.invariant-loop-state
invariant-loop-state l = l.found.items ≡ prunings_below l.kind (rows_in l.rows) l.state
