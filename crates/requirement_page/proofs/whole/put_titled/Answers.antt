use Rattle.std.proofs.Common.{◌++◌, ◌∙◌, ap, codes}
use Rattle.std.proofs.lemmas.Result.{on_ok_weaker}
use Rattle.requirement_report.specs.Text.{verdict_text}
use Rattle.requirement_page.proofs.Pieces.{from, by, before, where_ok}
use Rattle.requirement_page.proofs.whole.put_titled.Goals as goal

pub returns : goal.returns
returns c =
    on_ok_weaker c.extend_from_slice-3.result (λ e. (before (from c.args.out.now.items (codes "<title>Requirements: ")
    c.in_ok-extend_from_slice.ensures.items)
    (before (by (verdict_text c.args.verdict) (c.in_ok-extend_from_slice-2.ensures.items ∙ ap (λ t. c.extend_from_slice.new.self.items ++ t)
    c.verdict_text.ensures))
    (by (codes "</title>\n") e))).is) (where_ok c.extend_from_slice-3.result c.extend_from_slice-2.new.self.items (codes "</title>\n") _
    c.extend_from_slice-3.ensures.items)
