use Rattle.std.proofs.Common.{◌≡◌, ◌++◌}
use Rattle.ltl_closure.proofs.plan.put_plan.Given as goal

abbrev pub invariant-loop-piece : goal.invariant-loop-piece
invariant-loop-piece l = l.work.items ≡ l.initial.work.items ++ l.yielded
