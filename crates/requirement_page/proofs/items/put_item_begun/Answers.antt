use Rattle.std.proofs.Common.{codes}
use Rattle.std.proofs.lemmas.Result.{on_ok_weaker}
use Rattle.requirement_report.specs.Lines.{worded}
use Rattle.requirement_page.specs.Marks.{said}
use Rattle.requirement_page.proofs.Pieces.{from, by, before, where_ok}
use Rattle.requirement_page.proofs.items.put_item_begun.Goals as goal

pub returns : goal.returns
returns c =
    on_ok_weaker c.extend_from_slice-4.result (λ e. (before (from c.args.out.now.items (worded (codes "<article id=\"item-") c.args.number)
    c.in_ok-put_worded.ensures)
    (before (by (codes "\">\n<h3>") c.in_ok-extend_from_slice.ensures.items)
    (before (by (c.args.role.now) c.in_ok-extend_from_slice-2.ensures.items)
    (before (by (codes " ") c.in_ok-extend_from_slice-3.ensures.items)
    (before (by (said c.args.name.now) c.in_ok-put_said.ensures)
    (by (codes "</h3>\n") e)))))).is) (where_ok c.extend_from_slice-4.result c.put_said.new.out.items (codes "</h3>\n") _ c.extend_from_slice-4.ensures.items)
