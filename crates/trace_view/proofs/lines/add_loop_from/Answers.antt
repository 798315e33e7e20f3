use Rattle.std.proofs.Common.{arith}
use Rattle.trace_view.specs.Text.{spaces, under}
use Rattle.trace_view.proofs.Pieces.{line_closed}
use Rattle.trace_view.proofs.lines.add_loop_from.Goals as goal

pub returns : goal.returns
returns c =
    line_closed c.args.lines.now.items c.add_repeated.new.lines.items c.states.lines.items c.push.new.self.items (spaces c.args.measures.names)
    (under c.args.grid.now c.args.measures c.args.start) c.args.from c.args.to c.states.state
    c.states-test.false (omega arith) c.in_ok-add_repeated.ensures c.states.invariant.1 c.in_ok-push.ensures.items
