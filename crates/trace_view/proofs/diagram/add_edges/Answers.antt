use Rattle.std.proofs.Common.{arith, codes}
use Rattle.trace_view.specs.Diagram.{edge}
use Rattle.trace_view.proofs.Pieces.{begun, next, next_below}
use Rattle.trace_view.proofs.diagram.add_edges.Goals as goal

pub returns : goal.returns
returns c =
    let r1 = begun c.args.svg.now.items (codes "<path class='edge' d='") c.in_ok-extend_from_slice.ensures.items in
    let r2 = next_below (edge c.args.names c.args.lanes) c.states.state c.args.states r1 c.states-test.false (omega arith) c.states.invariant in
    let r3 = next (edge c.args.names c.args.lanes c.args.states) r2 c.in_ok-add_edge-2.ensures in
    (next (codes "'/>\n") r3 c.in_ok-extend_from_slice-2.ensures.items).is
