use Rattle.cdcl.specs.SolverValue.{value_of}
use Rattle.unravel.specs.Values.{AreRead}
use Rattle.unravel.proofs.showing.read_states.Given as goal

abbrev pub invariant-loop-step : goal.invariant-loop-step
invariant-loop-step l = AreRead l.closure.formula l.closure.kind (value_of l.solver) l.step l.states.items
