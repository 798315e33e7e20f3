use Rattle.std.proofs.Common.{◌≡◌, ◌++◌, map, drop}
use Rattle.serde_json.specs.View.{view}
use Rattle.requirement_document.specs.Values.{document_in}
use Rattle.requirement_json.specs.Checks.{check_data}
use Rattle.requirement_json.proofs.listing.push_checks.Given as goal

abbrev pub invariant-loop-check : goal.invariant-loop-check
invariant-loop-check l =
    map view l.answers.items ++ map (check_data (document_in l.document)) (drop l.check-index l.checks)
    ≡ map view l.fn.answers.items ++ map (check_data (document_in l.document)) l.checks
