use Rattle.clause_log.proofs.LogLemmas.{log_with_line}
use Rattle.clause_log.proofs.log.Log.derive.Goals as goal

pub invariant_of-self-in-Ok : goal.invariant_of-self-in-Ok
invariant_of-self-in-Ok c =
    rw (c.in_ok-push.ensures, c.in-Ok.ensures) (log_with_line _ _ _ c.self.invariant (rw (← c.self.view_is) at c.requires))
