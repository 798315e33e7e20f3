use Rattle.std.proofs.Common.{◌+◌, ◌∙◌, ap, codes}
use Rattle.trace_view.specs.Diagram.{x_of}
use Rattle.trace_view.proofs.Pieces.{next, begun_number, next_number}
use Rattle.trace_view.proofs.diagram.add_arrow.Goals as goal

pub returns : goal.returns
returns c =
    let r1 = begun_number c.args.svg.now.items (codes "<path class='back' d='M")
    (ap (λ n. n + 28) (c.x_of.ensures ∙ ap (x_of c.args.names) c.saturating_sub-last.ensures)) c.in_ok-add_worded.ensures in
    let r2 = next_number (codes " ") r1 (c.bottom.ensures) c.in_ok-add_worded-2.ensures in
    let r3 = next_number (codes "V") r2 (ap (λ n. n + 20) c.bottom-2.ensures) c.in_ok-add_worded-3.ensures in
    let r4 = next_number (codes "H") r3 (ap (λ n. n + 12) c.x_of-2.ensures) c.in_ok-add_worded-4.ensures in
    let r5 = next_number (codes "V") r4 (ap (λ n. n + 4) c.bottom-3.ensures) c.in_ok-add_worded-5.ensures in
    (next (codes "'/>\n") r5 c.in_ok-extend_from_slice.ensures.items).is
