use Rattle.std.proofs.Common.{◌<◌, length}
use Rattle.cdcl_state.proofs.store.latest.Given as goal

abbrev pub invariant-along : goal.invariant-along
invariant-along l = l.found < length l.clause
