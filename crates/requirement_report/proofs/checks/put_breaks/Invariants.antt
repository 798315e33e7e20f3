use Rattle.std.proofs.Common.{◌≡◌, ◌++◌, drop, flat_map}
use Rattle.requirement_document.specs.Values.{document_in}
use Rattle.requirement_report.specs.Text.{break_lines}
use Rattle.requirement_report.proofs.checks.put_breaks.Given as goal

abbrev pub invariant-loop-broken : goal.invariant-loop-broken
invariant-loop-broken l =
    l.out.items ++ flat_map (break_lines (document_in l.document)) (drop l.broken-index l.breaks)
    ≡ l.fn.out.items ++ flat_map (break_lines (document_in l.document)) l.breaks
