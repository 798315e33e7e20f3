use Rattle.std.proofs.Common.{arith}
use Rattle.trace_view.specs.Text.{label, cell}
use Rattle.trace_view.proofs.Pieces.{line_closed}
use Rattle.trace_view.proofs.lines.add_row.Goals as goal

pub returns : goal.returns
returns c =
    line_closed c.args.lines.now.items c.add_label.new.lines.items c.states.lines.items c.push.new.self.items (label c.args.measures c.args.row.now)
    (cell c.args.grid.now c.args.measures c.args.row.now) c.args.from c.args.to c.states.state
    c.states-test.false (omega arith) c.in_ok-add_label.ensures c.states.invariant.1 c.in_ok-push.ensures.items
