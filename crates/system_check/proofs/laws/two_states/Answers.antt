use Rattle.system_check.proofs.Two.{start_is_one, start_is_step, step_is_two, two_same}
use Rattle.system_check.proofs.laws.two_states.Goals as goal

pub returns-clause-forms : goal.returns-clause-forms
returns-clause-forms c f = start_is_step f

pub returns-clause-steps : goal.returns-clause-steps
returns-clause-steps c t f i infinite = step_is_two t infinite i f

pub returns-clause-starts : goal.returns-clause-starts
returns-clause-starts c t f i u = start_is_one t i u f

pub returns-clause-sets : goal.returns-clause-sets
returns-clause-sets c s s' u u' f = two_same s s' u u' f
