use Rattle.std.proofs.Common.{codes, false}
use Rattle.std.proofs.lemmas.Result.{on_ok_weaker}
use Rattle.requirement_page.specs.Pictures.{later_lines}
use Rattle.requirement_page.proofs.Pieces.{from, by, before, where_ok}
use Rattle.requirement_page.proofs.pictures.put_framed.Goals as goal

pub returns : goal.returns
returns c =
    on_ok_weaker c.extend_from_slice-2.result (λ e. (before (from c.args.out.now.items (codes "<div class=\"picture\">\n")
    c.in_ok-extend_from_slice.ensures.items)
    (before (by (later_lines false c.args.drawing.now) c.in_ok-put_later_lines.ensures)
    (by (codes "</div>\n") e))).is) (where_ok c.extend_from_slice-2.result c.put_later_lines.new.out.items (codes "</div>\n") _
    c.extend_from_slice-2.ensures.items)
