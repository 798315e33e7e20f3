use Rattle.clause_log.proofs.LogLemmas.{log_with_input}
use Rattle.clause_log.proofs.log.Log.add_input.Goals as goal

pub invariant_of-self-2 : goal.invariant_of-self-2
invariant_of-self-2 c = rw c.in_ok-push.ensures (log_with_input _ _ c.self.invariant)
