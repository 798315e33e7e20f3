use Rattle.std.proofs.Common.{◌≡◌, ◌++◌, map, drop}
use Rattle.std.specs.Option.{option_copied}
use Rattle.serde_json.specs.View.{view}
use Rattle.requirement_document.specs.Values.{document_in}
use Rattle.requirement_report.specs.Parts.{part_of}
use Rattle.requirement_json.specs.Because.{members_from}
use Rattle.requirement_json.proofs.because.members_value.Given as goal

abbrev pub invariant-members : goal.invariant-members
invariant-members l =
    map view l.values.items ++ members_from (document_in l.document) (part_of (option_copied l.core)) l.place (drop l.place l.members)
    ≡ members_from (document_in l.document) (part_of (option_copied l.core)) 0 l.members
