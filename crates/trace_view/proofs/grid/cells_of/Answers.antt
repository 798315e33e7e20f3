use Rattle.std.proofs.Common.{◌+◌, ◌∷◌, [], length, length-append, ap, ◌∙◌}
use Rattle.trace_view.proofs.Cells.{cell_more}
use Rattle.trace_view.proofs.grid.cells_of.Goals as goal

pub loop-state-preserved : goal.loop-state-preserved
loop-state-preserved c =
    let cells = c.loop-state.cells.items in
    let is = c.in_ok-push.ensures.items in (
      ap length is ∙ length-append cells (c.has.result ∷ []) ∙ ap (λ n. n + 1) c.loop-state.invariant.0,
      cell_more c.args.states.now c.args.name.now cells c.push.new.self.items c.loop-state.state-index c.state-item.result c.has.result
          c.loop-state.invariant.0 c.loop-state-test.true c.state-item.is c.loop-state.invariant.1 is c.has.ensures,
    )
