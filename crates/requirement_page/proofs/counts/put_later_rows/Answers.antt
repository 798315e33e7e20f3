use Rattle.std.proofs.Common.{codes}
use Rattle.std.proofs.lemmas.Result.{on_ok_weaker}
use Rattle.requirement_page.specs.Counts.{row_if}
use Rattle.requirement_page.proofs.Pieces.{from, by, before}
use Rattle.requirement_page.proofs.counts.put_later_rows.Goals as goal

pub returns : goal.returns
returns c =
    on_ok_weaker c.put_row_if-3.result (λ e. (before (from c.args.out.now.items (row_if (codes "possible") c.args.counts.possible) c.in_ok-put_row_if.ensures)
    (before (by (row_if (codes "follows") c.args.counts.follows) c.in_ok-put_row_if-2.ensures)
    (by (row_if (codes "keeps all") c.args.counts.keeps) e))).is) c.put_row_if-3.ensures
