use Rattle.std.proofs.Common.{◌++◌, ◌∙◌, ap}
use Rattle.std.proofs.lemmas.Result.{on_ok_weaker}
use Rattle.requirement_document.specs.Values.{document_in}
use Rattle.requirement_report.specs.Text.{word_of, item_asked}
use Rattle.requirement_page.specs.Marks.{item_link, begun, ended}
use Rattle.requirement_page.specs.Reasons.{described}
use Rattle.requirement_page.specs.Answers.{sort_of, answered}
use Rattle.requirement_page.proofs.Pieces.{from, by, before, where_ok}
use Rattle.requirement_page.proofs.answers.put_reply.Goals as goal

pub returns : goal.returns
returns c =
    let d = document_in c.args.document.now in
    let r = c.args.reply.now in
    on_ok_weaker c.extend_from_slice.result (λ e. (before (from c.args.out.now.items (begun (sort_of r.asking r.answer) c.args.number
    (word_of r.asking r.answer) (item_link d (item_asked r.asking))) c.in_ok-put_reply_begun.ensures)
    (before (by (described d (item_asked r.asking)) (c.in_ok-put_described.ensures ∙ ap (λ n. c.put_reply_begun.new.out.items ++ described d n)
    c.item_asked-item.ensures))
    (before (by (answered d c.args.limits.steps r.asking r.answer) c.in_ok-put_answered.ensures)
    (by (ended) e)))).is) (where_ok c.extend_from_slice.result c.put_answered.new.out.items (ended) _ c.extend_from_slice.ensures.items)
