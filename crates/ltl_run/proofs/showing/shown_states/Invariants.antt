use Rattle.ltl_run.specs.Shown.{HaveChosen}
use Rattle.ltl_run.proofs.showing.shown_states.Given as goal

abbrev pub invariant-loop-state : goal.invariant-loop-state
invariant-loop-state l = HaveChosen l.names l.states l.state-index l.shown.items
