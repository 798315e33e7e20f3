use Rattle.std.proofs.Common.{◌≡◌, map, take}
use Rattle.serde_json.specs.View.{view}
use Rattle.requirement_document.specs.Values.{document_in}
use Rattle.requirement_report.specs.Letters.{use_in}
use Rattle.requirement_json.specs.Letters.{use_data}
use Rattle.requirement_json.proofs.letters.letters_value.Given as goal

abbrev pub invariant-loop-letter : goal.invariant-loop-letter
invariant-loop-letter l = map view l.values.items ≡ map (use_data (document_in l.document)) (map use_in (take l.letter-index l.uses))
