use Rattle.std.proofs.Common.{◌≡◌, map, take}
use Rattle.serde_json.specs.View.{view}
use Rattle.requirement_document.specs.Values.{document_in}
use Rattle.requirement_report.specs.Slips.{slip_in}
use Rattle.requirement_json.specs.Letters.{slip_data}
use Rattle.requirement_json.proofs.letters.slips_value.Given as goal

abbrev pub invariant-loop-slip : goal.invariant-loop-slip
invariant-loop-slip l = map view l.values.items ≡ map (slip_data (document_in l.document)) (map slip_in (take l.slip-index l.slips))
