use Rattle.demand.specs.Reading.{read_row}
use Rattle.demand.proofs.ReadRows.{rows_more, one_more_row}
use Rattle.demand.proofs.reading.read_rows.Goals as goal

pub loop-step-preserved : goal.loop-step-preserved
loop-step-preserved g c =
    let rows = c.loop-step.rows.items in
    let row = c.in_ok-read_row.field-0 in
    let is = c.in_ok-push.ensures.items in
    let count = c.loop-step.invariant.count in record {
      count = one_more_row rows c.push.new.self.items row c.loop-step.step is count;
      each = rows_more rows c.push.new.self.items row c.loop-step.step
          (read_row c.args.closure.now.formula c.args.closure.now.kind (g.V.Values.values c.args.values.now))
          is count c.loop-step.invariant.each c.in_ok-read_row.ensures;
    }
