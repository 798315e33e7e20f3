use Rattle.std.proofs.Common.{codes}
use Rattle.std.proofs.lemmas.Result.{on_ok_weaker}
use Rattle.requirement_page.specs.Counts.{rows}
use Rattle.requirement_page.proofs.Pieces.{from, by, before, where_ok}
use Rattle.requirement_page.proofs.counts.put_table.Goals as goal

pub returns : goal.returns
returns c =
    on_ok_weaker c.extend_from_slice-2.result (λ e. (before (from c.args.out.now.items (codes "<table class=\"counts\">\n")
    c.in_ok-extend_from_slice.ensures.items)
    (before (by (rows c.args.counts) c.in_ok-put_rows.ensures)
    (by (codes "</table>\n") e))).is) (where_ok c.extend_from_slice-2.result c.put_rows.new.out.items (codes "</table>\n") _
    c.extend_from_slice-2.ensures.items)
