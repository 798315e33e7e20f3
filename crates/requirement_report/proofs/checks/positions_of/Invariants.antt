use Rattle.std.proofs.Common.{◌≡◌, take}
use Rattle.requirement_report.specs.Text.{positions_of}
use Rattle.requirement_report.proofs.checks.positions_of.Given as goal

abbrev pub invariant-loop-broken : goal.invariant-loop-broken
invariant-loop-broken l = l.positions.items ≡ positions_of (take l.broken-index l.breaks)
