use Rattle.std.proofs.Common.{codes}
use Rattle.std.proofs.lemmas.Result.{on_ok_weaker}
use Rattle.requirement_report.specs.Lines.{of_all}
use Rattle.requirement_page.proofs.Pieces.{from, by, before, where_ok}
use Rattle.requirement_page.proofs.counts.put_row.Goals as goal

pub returns : goal.returns
returns c =
    on_ok_weaker c.extend_from_slice-4.result (λ e. (before (from c.args.out.now.items (codes "<tr><td>") c.in_ok-extend_from_slice.ensures.items)
    (before (by (c.args.words.now) c.in_ok-extend_from_slice-2.ensures.items)
    (before (by (codes "</td><td>") c.in_ok-extend_from_slice-3.ensures.items)
    (before (by (of_all c.args.tally.good c.args.tally.all) c.in_ok-put_of_all.ensures)
    (by (codes "</td></tr>\n") e))))).is) (where_ok c.extend_from_slice-4.result c.put_of_all.new.out.items (codes "</td></tr>\n") _
    c.extend_from_slice-4.ensures.items)
