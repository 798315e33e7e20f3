use Rattle.std.proofs.Common.{[], map, take}
use Rattle.toml.specs.View.{view}
use Rattle.requirement_document.specs.Document.{AreDefined}
use Rattle.requirement_document.specs.Inner.{defined_in}
use Rattle.requirement_document.proofs.defining.read_definitions.Given as goal

abbrev pub invariant-each : goal.invariant-each
invariant-each l = AreDefined [] (take l.index (map view l.entries)) (defined_in l.definitions.entries)
