use Rattle.std.proofs.Common.{subst}
use Rattle.cdcl_state.specs.StateValue.{StateValue}
use Rattle.cdcl_trail.specs.Trail.{IsTrail}
use Rattle.cdcl_trail.proofs.Levels.{no_decisions}
use Rattle.cdcl_state.proofs.state.State.reset.Goals as goal

pub returns-clause-forced : goal.returns-clause-forced
returns-clause-forced c =
    no_decisions _ _ c.backjump.new.self.trail
    (subst (λ (s : StateValue). IsTrail s.log.inputs s.log.lines s.trail) c.self.view_is c.self.invariant.ready.is_trail) c.backjump.ensures.low
