use Rattle.std.proofs.Common.{codes, length}
use Rattle.std.proofs.lemmas.Result.{on_ok_weaker}
use Rattle.trace_view.specs.Text.{below}
use Rattle.requirement_document.specs.Values.{document_in}
use Rattle.requirement_page.specs.Items.{item_article, behaviour_article}
use Rattle.requirement_page.proofs.Pieces.{from, by, before}
use Rattle.requirement_page.proofs.items.put_all_items.Goals as goal

pub returns : goal.returns
returns c =
    let d = document_in c.args.document.now in
    on_ok_weaker c.put_behaviours.result (λ e. (before (from c.args.out.now.items (codes "<h2>Items</h2>\n") c.in_ok-extend_from_slice.ensures.items)
    (before (by (below (length d.items) (item_article d c.args.scope c.args.report.now)) c.in_ok-put_items.ensures)
    (by (below (length d.behaviours) (behaviour_article d c.args.scope c.args.report.now)) e))).is) c.put_behaviours.ensures
