use Rattle.std.proofs.Common.{arith}
use Rattle.trace_view.specs.Text.{spaces, number}
use Rattle.trace_view.proofs.Pieces.{line_closed}
use Rattle.trace_view.proofs.lines.add_numbers.Goals as goal

pub returns : goal.returns
returns c =
    line_closed c.args.lines.now.items c.add_repeated.new.lines.items c.states.lines.items c.push.new.self.items (spaces c.args.measures.names)
    (number c.args.grid.now c.args.measures) c.args.from c.args.to c.states.state
    c.states-test.false (omega arith) c.in_ok-add_repeated.ensures c.states.invariant.1 c.in_ok-push.ensures.items
