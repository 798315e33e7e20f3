use Rattle.std.proofs.Common.{◌≡◌, max, drop}
use Rattle.trace_view.specs.Names.{widest}
use Rattle.trace_view.proofs.names.widest.Given as goal

abbrev pub invariant-loop-row : goal.invariant-loop-row
invariant-loop-row l = max l.most (widest (drop l.row-index l.rows)) ≡ widest l.rows
