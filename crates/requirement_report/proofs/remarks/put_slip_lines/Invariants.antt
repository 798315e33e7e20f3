use Rattle.std.proofs.Common.{◌≡◌, ◌++◌, drop, flat_map}
use Rattle.requirement_document.specs.Values.{document_in}
use Rattle.requirement_report.specs.Slips.{slip_in}
use Rattle.requirement_report.specs.Text.{slip_line}
use Rattle.requirement_report.proofs.remarks.put_slip_lines.Given as goal

abbrev pub invariant-loop-slip : goal.invariant-loop-slip
invariant-loop-slip l =
    l.out.items ++ flat_map (λ s. slip_line (document_in l.document) (slip_in s)) (drop l.slip-index l.slips)
    ≡ l.fn.out.items ++ flat_map (λ s. slip_line (document_in l.document) (slip_in s)) l.slips
