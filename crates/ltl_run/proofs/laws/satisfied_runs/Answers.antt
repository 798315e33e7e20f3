use Rattle.std.proofs.Common.{true}
use Rattle.ltl_word.specs.declared.trace.Trace.TheVariants.{Infinite}
use Rattle.ltl_run.proofs.Normal.{norm_holds}
use Rattle.ltl_run.proofs.Tableau.{lasso_runs}
use Rattle.ltl_run.proofs.Least.{trace_runs}
use Rattle.ltl_run.proofs.laws.satisfied_runs.Goals as goal

pub returns-clause-accepted : goal.returns-clause-accepted
returns-clause-accepted c = trace_runs

pub returns-clause-lasso : goal.returns-clause-lasso
returns-clause-lasso c f stem loop_part some h = lasso_runs f stem loop_part some ((norm_holds (Infinite stem loop_part) some f true).back 0 tt h)
