use Rattle.ltl_closure.proofs.plan.+plan_window.Given as goal

abbrev pub decreases-plan_window : goal.decreases-plan_window
decreases-plan_window l = l.to
