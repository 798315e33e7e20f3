use Rattle.ltl_run.proofs.Closing.{run_satisfies, rule_of, accepted_by}
use Rattle.ltl_run.proofs.laws.run_satisfies.Goals as goal

pub returns-clause-satisfies : goal.returns-clause-satisfies
returns-clause-satisfies c = run_satisfies

pub returns-clause-rules : goal.returns-clause-rules
returns-clause-rules c f kind k r = (rule_of f kind k r, accepted_by f kind k r)
