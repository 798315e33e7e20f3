use Rattle.std.proofs.Common.{◌++◌, ◌∙◌, get_or, codes, ap, sym}
use Rattle.std.proofs.lemmas.Result.{on_ok_weaker}
use Rattle.requirement_document.specs.Values.{document_in}
use Rattle.requirement_page.specs.Marks.{item_link}
use Rattle.requirement_page.proofs.Pieces.{from, by, before, where_ok}
use Rattle.requirement_page.proofs.Suspects.{one_alone}
use Rattle.requirement_page.proofs.slips.put_alone.Goals as goal

pub returns : goal.returns
returns c =
    let d = document_in c.args.document.now in
    let one = one_alone d c.args.items.now c.args.behind.now c.if-items-ne1.false in
    on_ok_weaker c.extend_from_slice-3.result (λ e. (before (from c.args.out.now.items (codes "in ") c.in_ok-extend_from_slice.ensures.items)
    (before (by (item_link d (get_or c.args.items.now 0 0)) c.in_ok-put_item_link.ensures)
    (before (by (codes " alone") c.in_ok-extend_from_slice-2.ensures.items)
    (by c.args.behind.now e)))).is ∙ ap (λ t. c.args.out.now.items ++ t) (sym one))
    (where_ok c.extend_from_slice-3.result c.extend_from_slice-2.new.self.items c.args.behind.now _ c.extend_from_slice-3.ensures.items)
