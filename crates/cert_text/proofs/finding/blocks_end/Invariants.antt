use Rattle.std.proofs.Common.{◌-◌, ◌≤◌, length}
use Rattle.cert_text.specs.Skipped.{HasNoNought}
use Rattle.cert_text.proofs.finding.blocks_end.Given as goal

abbrev pub invariant-blocks-2 : goal.invariant-blocks-2
invariant-blocks-2 l = (1 ≤ l.end) × (l.end ≤ length l.line) × HasNoNought l.line 1 l.end

abbrev pub decreases-blocks-2 : goal.decreases-blocks-2
decreases-blocks-2 l = length l.line - l.end
