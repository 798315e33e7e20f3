use Rattle.std.proofs.Common.{codes}
use Rattle.std.proofs.lemmas.Result.{on_ok_weaker}
use Rattle.requirement_report.specs.Lines.{worded}
use Rattle.requirement_page.specs.Marks.{said}
use Rattle.requirement_page.proofs.Pieces.{from, by, before, where_ok}
use Rattle.requirement_page.proofs.marks.put_link.Goals as goal

pub returns : goal.returns
returns c =
    on_ok_weaker c.extend_from_slice-2.result (λ e. (before (from c.args.out.now.items (worded (codes "<a href=\"#item-") c.args.number)
    c.in_ok-put_worded.ensures)
    (before (by (codes "\">") c.in_ok-extend_from_slice.ensures.items)
    (before (by (said c.args.name.now) c.in_ok-put_said.ensures)
    (by (codes "</a>") e)))).is) (where_ok c.extend_from_slice-2.result c.put_said.new.out.items (codes "</a>") _ c.extend_from_slice-2.ensures.items)
