use Rattle.std.proofs.Common.{◌-◌, ◌≤◌, length}
use Rattle.cert_text.specs.Skipped.{HasNoNought}
use Rattle.cert_text.proofs.finding.nought_from.Given as goal

abbrev pub invariant-bytes : goal.invariant-bytes
invariant-bytes l = (l.at ≤ l.end) × (l.end ≤ length l.line) × HasNoNought l.line l.at l.end

abbrev pub decreases-bytes : goal.decreases-bytes
decreases-bytes l = length l.line - l.end
