use Rattle.std.proofs.Common.{codes}
use Rattle.requirement_document.specs.Values.{document_in}
use Rattle.requirement_answers.specs.Verdicts.{verdict}
use Rattle.requirement_page.specs.Slips.{slips_part}
use Rattle.requirement_page.specs.Items.{all_items}
use Rattle.requirement_page.specs.Counts.{table}
use Rattle.requirement_page.specs.Page.{head, answer_articles}
use Rattle.requirement_page.proofs.Pieces.{from, by, before, from_nothing}
use Rattle.requirement_page.proofs.whole.page.Goals as goal

pub returns : goal.returns
returns c =
    let d = document_in c.args.document.now in
    let r = c.args.report.now in
    let counts = c.counts_of-counts.result in (
      counts,
      c.counts_of-counts.ensures,
      from_nothing c.new-out.ensures.items
          (before (from c.new-out.result.items (head (verdict r)) c.in_ok-put_head_of.ensures)
          (before (by (table counts) c.in_ok-put_table.ensures)
          (before (by (answer_articles d r c.args.scope c.args.limits.steps counts) c.in_ok-put_answers.ensures)
          (before (by (slips_part d c.args.scope) c.in_ok-put_slips.ensures)
          (before (by (all_items d c.args.scope r) c.in_ok-put_all_items.ensures)
          (by (codes "</body>\n</html>\n") c.in_ok-extend_from_slice.ensures.items)))))),
    )
