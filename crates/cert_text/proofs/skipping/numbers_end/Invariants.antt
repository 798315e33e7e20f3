use Rattle.std.proofs.Common.{◌-◌, ◌≤◌, length}
use Rattle.cert_text.specs.Skipped.{between, AreShort}
use Rattle.cert_text.proofs.skipping.numbers_end.Given as goal

abbrev pub invariant-numbers : goal.invariant-numbers
invariant-numbers l = (l.at ≤ l.end) × (l.end ≤ length l.bytes) × AreShort l.most (between l.bytes l.at l.end)

abbrev pub decreases-numbers : goal.decreases-numbers
decreases-numbers l = length l.bytes - l.end
