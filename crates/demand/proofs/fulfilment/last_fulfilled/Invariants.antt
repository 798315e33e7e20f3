use Rattle.std.proofs.Common.{◌≡◌, ◌≤◌}
use Rattle.demand.specs.Rows.{rows_in}
use Rattle.demand.specs.Fulfilment.{last_done}
use Rattle.demand.proofs.fulfilment.last_fulfilled.Given as goal

abbrev pub invariant-walk : goal.invariant-walk
invariant-walk l = record {
  within : l.last ≤ l.state;
  same : last_done (rows_in l.rows) l.state l.eventuality ≡ last_done (rows_in l.rows) l.last l.eventuality;
}

abbrev pub decreases-walk : goal.decreases-walk
decreases-walk l = l.last
