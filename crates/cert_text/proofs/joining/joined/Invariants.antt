use Rattle.std.proofs.Common.{◌≤◌, [], length, take}
use Rattle.cert_text.specs.Passes.{LeadsTo, with_lines}
use Rattle.cert_text.specs.declared.scanning.Place.TheVariants as places
use Rattle.cert_text.proofs.joining.joined.Given as goal

abbrev pub invariant-pieces : goal.invariant-pieces
invariant-pieces l = (l.at ≤ length l.bytes) × LeadsTo (take l.at l.bytes) [] (places.Part (with_lines l.head l.lines))
