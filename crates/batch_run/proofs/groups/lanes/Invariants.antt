use Rattle.std.proofs.Common.{◌≡◌, length}
use Rattle.batch_run.proofs.groups.lanes.Given as goal

abbrev pub invariant-workers : goal.invariant-workers
invariant-workers l = length l.lanes.items ≡ l._worker
