use Rattle.claims.proofs.Stepping.{states_make_steps}
use Rattle.claims.proofs.Showing.{steps_show_states}
use Rattle.claims.proofs.laws.steps.Goals as goal

pub returns-clause-made : goal.returns-clause-made
returns-clause-made c = states_make_steps

pub returns-clause-shown : goal.returns-clause-shown
returns-clause-shown c = steps_show_states
