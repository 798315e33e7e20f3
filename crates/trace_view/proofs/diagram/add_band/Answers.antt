use Rattle.std.proofs.Common.{◌+◌, ◌*◌, ap, codes}
use Rattle.trace_view.specs.Diagram.{worded}
use Rattle.trace_view.proofs.Pieces.{next, begun_number, next_number}
use Rattle.trace_view.proofs.diagram.add_band.Goals as goal

pub returns : goal.returns
returns c =
    let r1 = begun_number c.args.svg.now.items (codes "<rect class='loop' x='") (c.x_of.ensures) c.in_ok-add_worded.ensures in
    let r2 = next_number (codes "' y='36' width='") r1 (ap (λ n. 40 * n) c.saturating_sub.ensures) c.in_ok-add_worded-2.ensures in
    let r3 = next (worded (codes "' height='") (8 + 36 * c.args.lanes)) r2 c.in_ok-add_worded-3.ensures in
    (next (codes "'/>\n") r3 c.in_ok-extend_from_slice.ensures.items).is
