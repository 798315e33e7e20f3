use Rattle.std.proofs.Common.{length, ◌-◌}
use Rattle.cert_text.specs.View.{IsMarking}
use Rattle.cert_text.proofs.marks.mark_parts.Given as goal

abbrev pub invariant-loop-at : goal.invariant-loop-at
invariant-loop-at l = IsMarking l.bytes l.at l.spans.items l.ends.items

abbrev pub decreases-loop-at : goal.decreases-loop-at
decreases-loop-at l = length l.bytes - l.at
