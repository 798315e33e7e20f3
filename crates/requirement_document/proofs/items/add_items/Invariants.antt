use Rattle.std.proofs.Common.{◌≡◌, ◌++◌, map, take, string_bytes}
use Rattle.toml.specs.View.{view}
use Rattle.requirement_document.specs.Values.{item_in}
use Rattle.requirement_document.specs.Document.{section_of, taken_before, names_of}
use Rattle.requirement_document.specs.Inner.{defined_in}
use Rattle.requirement_document.proofs.Listing.{AreAdded}
use Rattle.requirement_document.proofs.items.add_items.Given as goal

abbrev pub invariant-each : goal.invariant-each
invariant-each l = record {
  items : AreAdded l.role (defined_in l.definitions.entries) (taken_before (section_of l.role) (view l.root)) (take l.index (map view l.entries))
      (map item_in l.fn.items.items) (map item_in l.items.items);
  names : map string_bytes l.names.keys ≡ taken_before (section_of l.role) (view l.root) ++ names_of (take l.index (map view l.entries));
}
