use Rattle.std.proofs.Common.{◌≡◌, ◌≤◌}
use Rattle.demand.specs.Rows.{rows_in}
use Rattle.demand.specs.Nearest.{nearest}
use Rattle.demand.specs.Pruning.{triple_from}
use Rattle.demand.proofs.pruning.triple_of.Given as goal

abbrev pub invariant-walk : goal.invariant-walk
invariant-walk l = record {
  within : l.second ≤ l.state;
  same : nearest l.state (triple_from (rows_in l.rows) l.state) ≡ nearest l.second (triple_from (rows_in l.rows) l.state);
}

abbrev pub decreases-walk : goal.decreases-walk
decreases-walk l = l.second
