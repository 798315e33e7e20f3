use Rattle.std.proofs.Common.{◌+◌, ◌*◌, ◌∙◌, ap, codes}
use Rattle.trace_view.specs.Diagram.{worded}
use Rattle.trace_view.specs.Names.{shown}
use Rattle.trace_view.proofs.Pieces.{begun, next, next_name}
use Rattle.trace_view.proofs.diagram.add_title.Goals as goal

pub returns : goal.returns
returns c =
    let r1 = begun c.args.svg.now.items (worded (codes "<text class='name' x='12' y='") (63 + 36 * c.args.lane)) c.in_ok-add_worded.ensures in
    let r2 = next (codes "'>") r1 c.in_ok-extend_from_slice.ensures.items in
    let r3 = next_name c.as_bytes.result.now c.args.row.now.name r2 (c.as_bytes.ensures.value ∙ (c.in_ok-name.ensures ∙ ap shown c.name.ensures))
    c.in_ok-add_escaped.ensures in
    (next (codes "</text>\n") r3 c.in_ok-extend_from_slice-2.ensures.items).is
