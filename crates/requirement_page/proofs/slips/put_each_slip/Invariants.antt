use Rattle.std.proofs.Common.{◌≡◌, ◌++◌, drop, flat_map, map}
use Rattle.requirement_document.specs.Values.{document_in}
use Rattle.requirement_report.specs.Slips.{slip_in}
use Rattle.requirement_page.specs.Slips.{slip_item}
use Rattle.requirement_page.proofs.slips.put_each_slip.Given as goal

abbrev pub invariant-loop-slip : goal.invariant-loop-slip
invariant-loop-slip l =
    l.out.items ++ flat_map (slip_item (document_in l.document)) (map slip_in (drop l.slip-index l.slips))
    ≡ l.fn.out.items ++ flat_map (slip_item (document_in l.document)) (map slip_in l.slips)
