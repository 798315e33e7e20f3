use Rattle.std.proofs.Common.{◌-◌, ◌<◌, ◌≤◌, length}
use Rattle.cert_text.specs.Live.{lines_of}
use Rattle.cert_text.specs.Reading.{line_start}
use Rattle.log_checker.proofs.cuts.line_from.Given as goal

abbrev pub invariant-halves : goal.invariant-halves
invariant-halves l = (l.low ≤ l.high) × (l.high ≤ length (lines_of l.view.parts))
    × (0 < l.low → line_start l.view (l.low - 1) < l.byte)
    × (l.high < length (lines_of l.view.parts) → l.byte ≤ line_start l.view l.high)

abbrev pub decreases-halves : goal.decreases-halves
decreases-halves l = l.high - l.low
