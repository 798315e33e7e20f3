use Rattle.std.proofs.Common.{◌≡◌, ◌++◌, map, drop}
use Rattle.serde_json.specs.View.{view}
use Rattle.requirement_document.specs.Values.{document_in}
use Rattle.requirement_json.specs.Answers.{conflicts_from}
use Rattle.requirement_json.proofs.listing.push_conflicts.Given as goal

abbrev pub invariant-loop-because : goal.invariant-loop-because
invariant-loop-because l =
    (map view l.answers.items ++ conflicts_from (document_in l.document) l.cores l.place (drop l.because-index l.conflicts)
    ≡ map view l.fn.answers.items ++ conflicts_from (document_in l.document) l.cores 0 l.conflicts)
    × (l.place ≡ l.because-index)
