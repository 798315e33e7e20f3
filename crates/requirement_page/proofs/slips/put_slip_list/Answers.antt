use Rattle.std.proofs.Common.{◌<◌, ◌++◌, ◌∙◌, map, length, codes, flat_map, ap, sym, arith}
use Rattle.std.proofs.lemmas.Result.{on_ok_weaker}
use Rattle.std.proofs.lemmas.Grind.{common_steps}
use Rattle.requirement_document.specs.Values.{document_in}
use Rattle.requirement_report.specs.Slips.{slip_in}
use Rattle.requirement_page.specs.Slips.{slip_item}
use Rattle.requirement_page.proofs.Pieces.{from, by, before, where_ok}
use Rattle.requirement_page.proofs.Suspects.{some_slips}
use Rattle.requirement_page.proofs.slips.put_slip_list.Goals as goal

pub returns : goal.returns
returns c =
    let d = document_in c.args.document.now in
    let some : 0 < length c.args.slips.now = grind (arith, common_steps) in
    on_ok_weaker c.extend_from_slice-2.result (λ e. (before (from c.args.out.now.items (codes "<h2>Perhaps a slip</h2>\n<ul>\n")
    c.in_ok-extend_from_slice.ensures.items)
    (before (by (flat_map (slip_item d) (map slip_in c.args.slips.now)) c.in_ok-put_each_slip.ensures)
    (by (codes "</ul>\n") e))).is ∙ ap (λ t. c.args.out.now.items ++ t) (sym (some_slips d c.args.slips.now some)))
    (where_ok c.extend_from_slice-2.result c.put_each_slip.new.out.items (codes "</ul>\n") _ c.extend_from_slice-2.ensures.items)
