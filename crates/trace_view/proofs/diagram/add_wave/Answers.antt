use Rattle.std.proofs.Common.{arith, codes}
use Rattle.trace_view.specs.Diagram.{stroke}
use Rattle.trace_view.proofs.Pieces.{next, begun_number, next_number, next_below}
use Rattle.trace_view.proofs.diagram.add_wave.Goals as goal

pub returns : goal.returns
returns c =
    let r1 = begun_number c.args.svg.now.items (codes "<path class='lane' d='M") (c.x_of.ensures) c.in_ok-add_worded.ensures in
    let r2 = next_number (codes " ") r1 (c.level.ensures) c.in_ok-add_worded-2.ensures in
    let r3 = next_below (stroke c.args.names c.args.lane c.args.row.now) c.states.state c.args.states r2 c.states-test.false (omega arith) c.states.invariant in
    let r4 = next_number (codes "V") r3 (c.level-2.ensures) c.in_ok-add_worded-3.ensures in
    (next (codes "'/>\n") r4 c.in_ok-extend_from_slice.ensures.items).is
