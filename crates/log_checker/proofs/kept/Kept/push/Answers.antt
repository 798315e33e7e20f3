use Rattle.log_checker.proofs.Entries.{kept_push}
use Rattle.log_checker.proofs.kept.Kept.push.Goals as goal

pub invariant_of-self-2 : goal.invariant_of-self-2
invariant_of-self-2 c = rw c.in_ok-push.ensures.items (kept_push _ _ _ _ c.self.invariant)
