use Rattle.std.proofs.Common.{◌∙◌, sym}
use Rattle.std.proofs.lemmas.Result.{on_ok_weaker}
use Rattle.requirement_document.specs.Values.{document_in}
use Rattle.requirement_report.proofs.Slipped.{block_put}
use Rattle.requirement_report.proofs.remarks.put_block.Goals as goal

pub returns : goal.returns
returns c =
    on_ok_weaker c.put_slip_lines.result
    (block_put (document_in c.args.document.now) c.args.slips.now c.args.out.now.items c.extend_from_slice.new.self.items c.put_slip_lines.new.out.items
    (sym c.is_empty.ensures ∙ c.if-is_empty.false) c.in_ok-extend_from_slice.ensures.items)
    c.put_slip_lines.ensures
