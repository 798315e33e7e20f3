use Rattle.std.proofs.Common.{◌+◌, slice_get}
use Rattle.std.proofs.lemmas.Result.{on_ok_weaker}
use Rattle.requirement_document.specs.Values.{document_in}
use Rattle.requirement_report.specs.Subjects.{name_of}
use Rattle.requirement_page.specs.Marks.{ended}
use Rattle.requirement_page.specs.Reasons.{described}
use Rattle.requirement_page.specs.Items.{item_begun, role_in, notes, item_notes}
use Rattle.requirement_page.proofs.Pieces.{from, by, before, where_ok}
use Rattle.requirement_page.proofs.items.put_item.Goals as goal

pub returns : goal.returns
returns c =
    let d = document_in c.args.document.now in
    on_ok_weaker c.extend_from_slice.result (λ e. (before (from c.args.out.now.items (item_begun (c.args.number + 1) (role_in (slice_get d.items
    c.args.number)) (name_of d c.args.number)) c.in_ok-put_named_item.ensures)
    (before (by (described d c.args.number) c.in_ok-put_described.ensures)
    (before (by (notes (item_notes c.args.scope c.args.report.now c.args.number)) c.in_ok-put_item_notes.ensures)
    (by (ended) e)))).is) (where_ok c.extend_from_slice.result c.put_item_notes.new.out.items (ended) _ c.extend_from_slice.ensures.items)
