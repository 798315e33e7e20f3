use Rattle.std.proofs.Common.{◌≡◌, map, take}
use Rattle.serde_json.specs.View.{view}
use Rattle.requirement_document.specs.Values.{document_in}
use Rattle.requirement_json.specs.Items.{name_data}
use Rattle.requirement_json.proofs.report.aside_value.Given as goal

abbrev pub invariant-loop-member : goal.invariant-loop-member
invariant-loop-member l = map view l.values.items ≡ map (λ m. name_data (document_in l.document) m.given) (take l.member-index l.members)
