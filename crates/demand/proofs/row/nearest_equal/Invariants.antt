use Rattle.std.proofs.Common.{◌≡◌, ◌≤◌, Some}
use Rattle.demand.specs.Rows.{rows_in}
use Rattle.demand.specs.Nearest.{nearest, where_true}
use Rattle.demand.specs.Closing.{is_one_carry}
use Rattle.demand.proofs.row.nearest_equal.Given as goal

abbrev pub invariant-walk : goal.invariant-walk
invariant-walk l = record {
  within : l.left ≤ l.below;
  same : nearest l.below (λ j. where_true (is_one_carry (rows_in l.rows) j l.state) (Some j))
      ≡ nearest l.left (λ j. where_true (is_one_carry (rows_in l.rows) j l.state) (Some j));
}

abbrev pub decreases-walk : goal.decreases-walk
decreases-walk l = l.left
