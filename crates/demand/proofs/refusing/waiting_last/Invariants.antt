use Rattle.demand.specs.Constraints.{AreWaiting}
use Rattle.demand.proofs.refusing.waiting_last.Given as goal

abbrev pub invariant-loop-eventuality : goal.invariant-loop-eventuality
invariant-loop-eventuality l = AreWaiting l.rows l.waiting.items
