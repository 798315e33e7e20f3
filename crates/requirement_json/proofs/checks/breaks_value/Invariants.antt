use Rattle.std.proofs.Common.{◌≡◌, map, take}
use Rattle.serde_json.specs.View.{view}
use Rattle.requirement_document.specs.Values.{document_in}
use Rattle.requirement_json.specs.Checks.{break_data}
use Rattle.requirement_json.proofs.checks.breaks_value.Given as goal

abbrev pub invariant-loop-broken : goal.invariant-loop-broken
invariant-loop-broken l = map view l.values.items ≡ map (break_data (document_in l.document)) (take l.broken-index l.breaks)
