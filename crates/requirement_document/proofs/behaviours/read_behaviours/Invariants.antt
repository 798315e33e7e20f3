use Rattle.std.proofs.Common.{◌≡◌, ◌++◌, map, take, string_bytes}
use Rattle.toml.specs.View.{view}
use Rattle.requirement_document.specs.declared.fault.Section.TheVariants as sections
use Rattle.requirement_document.specs.Values.{behaviour_in}
use Rattle.requirement_document.specs.Document.{taken_before, names_of, AreBehaviours}
use Rattle.requirement_document.proofs.behaviours.read_behaviours.Given as goal

abbrev pub invariant-each : goal.invariant-each
invariant-each l = record {
  behaviours : AreBehaviours (taken_before sections.Behaviour (view l.root)) (take l.index (map view l.entries)) (map behaviour_in l.behaviours.items);
  names : map string_bytes l.names.keys ≡ taken_before sections.Behaviour (view l.root) ++ names_of (take l.index (map view l.entries));
}
