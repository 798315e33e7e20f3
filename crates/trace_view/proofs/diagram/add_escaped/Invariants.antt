use Rattle.std.proofs.Common.{◌≡◌, ◌++◌, drop}
use Rattle.trace_view.specs.Diagram.{escaped}
use Rattle.trace_view.proofs.diagram.add_escaped.Given as goal

abbrev pub invariant-loop-byte : goal.invariant-loop-byte
invariant-loop-byte l = l.svg.items ++ escaped (drop l.byte-index l.text) ≡ l.fn.svg.items ++ escaped l.text
