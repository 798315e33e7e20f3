use Rattle.std.proofs.Common.{◌≡◌, ◌++◌, drop}
use Rattle.trace_view.specs.Diagram.{escaped}
use Rattle.requirement_page.proofs.marks.put_escaped.Given as goal

abbrev pub invariant-loop-byte : goal.invariant-loop-byte
invariant-loop-byte l = l.out.items ++ escaped (drop l.byte-index l.text) ≡ l.fn.out.items ++ escaped l.text
