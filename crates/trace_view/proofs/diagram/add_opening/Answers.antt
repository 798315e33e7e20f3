use Rattle.std.proofs.Common.{codes}
use Rattle.trace_view.specs.Diagram.{worded, style}
use Rattle.trace_view.proofs.Pieces.{begun, next}
use Rattle.trace_view.proofs.diagram.add_opening.Goals as goal

pub returns : goal.returns
returns c =
    let r1 = begun c.args.svg.now.items
    (worded (codes "<?xml version='1.0' encoding='UTF-8'?>\n<svg xmlns='http://www.w3.org/2000/svg' version='1.1' width='") c.args.width)
    c.in_ok-add_worded.ensures in
    let r2 = next (worded (codes "' height='") c.args.height) r1 c.in_ok-add_worded-2.ensures in
    let r3 = next (worded (codes "' viewBox='0 0 ") c.args.width) r2 c.in_ok-add_worded-3.ensures in
    let r4 = next (worded (codes " ") c.args.height) r3 c.in_ok-add_worded-4.ensures in
    let r5 = next (codes "'>\n<title>A trace</title>\n") r4 c.in_ok-extend_from_slice.ensures.items in
    (next (style) r5 c.in_ok-add_style.ensures).is
