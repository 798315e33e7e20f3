use Rattle.std.proofs.Common.{refl, flat_map, map}
use Rattle.requirement_document.specs.Values.{document_in}
use Rattle.requirement_report.specs.Slips.{slip_in}
use Rattle.requirement_page.specs.Slips.{slip_item}
use Rattle.requirement_report.proofs.Loops.{one_more}
use Rattle.requirement_page.proofs.slips.put_each_slip.Goals as goal

pub loop-slip-preserved : goal.loop-slip-preserved
loop-slip-preserved c =
    let d = document_in c.args.document.now in
    one_more (λ ss. flat_map (slip_item d) (map slip_in ss)) c.args.slips.now c.loop-slip.slip-index c.slip-item.result _ _ _ _ _ c.loop-slip-test.true
    c.slip-item.is refl c.loop-slip.invariant c.in_ok-put_slip.ensures
