use Rattle.ltl_run.proofs.Bounds.{settled}
use Rattle.ltl_run.proofs.Least.{found_at_bound}
use Rattle.ltl_run.proofs.laws.bounded.Goals as goal

pub returns-clause-settled : goal.returns-clause-settled
returns-clause-settled c = settled

pub returns-clause-found : goal.returns-clause-found
returns-clause-found c = found_at_bound
