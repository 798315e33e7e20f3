use Rattle.std.proofs.Common.{◌≡◌, ℕ, ◌<◌, length}
use Rattle.demand.specs.Rows.{rows_in}
use Rattle.demand.specs.Reading.{read_row}
use Rattle.demand.proofs.reading.read_rows.Given as goal

abbrev pub invariant-loop-step : goal.invariant-loop-step
invariant-loop-step g l = record {
  count : length l.rows.items ≡ l.step;
  each : (i : ℕ) → i < l.step → rows_in l.rows.items i ≡ read_row l.closure.formula l.closure.kind (g.V.Values.values l.values) i;
}
