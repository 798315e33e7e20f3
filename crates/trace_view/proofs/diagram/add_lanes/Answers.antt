use Rattle.std.proofs.Common.{◌≡◌, ◌++◌, ◌+◌, ◌<◌, ◌∙◌, List, ap, length, get_or, subst}
use Rattle.trace_view.specs.Grid.{RowValue}
use Rattle.trace_view.specs.Diagram.{lanes_from, wave}
use Rattle.trace_view.proofs.Lanes.{lane_more}
use Rattle.trace_view.proofs.diagram.add_lanes.Goals as goal

pub loop-row-preserved : goal.loop-row-preserved
loop-row-preserved c =
    let row = c.row-item.result in
    let i = c.loop-row.row-index in
    let rows = c.args.grid.now.rows in (
      ap (λ n. n + 1) c.loop-row.invariant.0,
      lane_more c.args.names c.args.grid.now.states c.loop-row.lane i rows row (c.args.svg.now.items ++ lanes_from c.args.names c.args.grid.now.states 0 rows)
          c.loop-row.svg.items c.add_title.new.svg.items c.add_wave.new.svg.items
          (subst (λ (xs : List RowValue). i < length xs) c.rows-row-items.ensures c.loop-row-test.true)
          (subst (λ (xs : List RowValue). row ≡ get_or xs i row) c.rows-row-items.ensures c.row-item.is)
          c.loop-row.invariant.0 c.loop-row.invariant.1 c.in_ok-add_title.ensures
          (c.in_ok-add_wave.ensures ∙ ap (λ n. c.add_title.new.svg.items ++ wave c.args.names n c.loop-row.lane row) c.states.ensures),
    )
