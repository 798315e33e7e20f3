use Rattle.std.proofs.Common.{◌+◌, ap, codes}
use Rattle.trace_view.proofs.Pieces.{next, begun_number, next_number}
use Rattle.trace_view.proofs.diagram.add_head.Goals as goal

pub returns : goal.returns
returns c =
    let r1 = begun_number c.args.svg.now.items (codes "<path class='head' d='M") (ap (λ n. n + 12) c.x_of.ensures) c.in_ok-add_worded.ensures in
    let r2 = next_number (codes " ") r1 (c.bottom.ensures) c.in_ok-add_worded-2.ensures in
    (next (codes "l5 9h-10Z'/>\n") r2 c.in_ok-extend_from_slice.ensures.items).is
