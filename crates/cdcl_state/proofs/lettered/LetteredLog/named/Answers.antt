use Rattle.std.proofs.Common.{All, subst}
use Rattle.clause_log.specs.LogValue.{LogValue}
use Rattle.cdcl_state.specs.Named.{AreOf}
use Rattle.cdcl_state.proofs.lettered.LetteredLog.named.Goals as goal

pub returns : goal.returns
returns c = subst (λ (l : LogValue). All (AreOf c.self.inside.named) l.inputs) c.self.view_is c.self.invariant
