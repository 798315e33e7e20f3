use Rattle.ltl_closure.proofs.plan.+plan_times.Given as goal

abbrev pub decreases-plan_times : goal.decreases-plan_times
decreases-plan_times l = l.n
