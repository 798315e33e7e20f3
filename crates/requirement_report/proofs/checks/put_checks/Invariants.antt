use Rattle.std.proofs.Common.{◌≡◌, ◌++◌, drop, flat_map}
use Rattle.requirement_document.specs.Values.{document_in}
use Rattle.requirement_report.specs.Text.{check_block}
use Rattle.requirement_report.proofs.checks.put_checks.Given as goal

abbrev pub invariant-loop-check : goal.invariant-loop-check
invariant-loop-check l =
    l.out.items ++ flat_map (check_block (document_in l.document)) (drop l.check-index l.checks)
    ≡ l.fn.out.items ++ flat_map (check_block (document_in l.document)) l.checks
