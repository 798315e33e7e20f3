use Rattle.std.proofs.Common.{◌-◌, ◌≤◌, length, All}
use Rattle.cert_text.specs.Skipped.{between, IsDigit}
use Rattle.cert_text.proofs.skipping.digits_end.Given as goal

abbrev pub invariant-digits : goal.invariant-digits
invariant-digits l = (l.at ≤ l.end) × (l.end ≤ length l.bytes) × All IsDigit (between l.bytes l.at l.end)

abbrev pub decreases-digits : goal.decreases-digits
decreases-digits l = length l.bytes - l.end
