use Rattle.ltl_run.proofs.Least.{unsat_has_no_trace}
use Rattle.ltl_run.proofs.laws.unsatisfiable.Goals as goal

pub returns : goal.returns
returns c = unsat_has_no_trace
