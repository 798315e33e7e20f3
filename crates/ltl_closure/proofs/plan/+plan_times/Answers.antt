use Rattle.std.proofs.Common.{arith}
use Rattle.ltl_closure.proofs.Steps.{on_ok}
use Rattle.ltl_closure.proofs.Laying.{times_laid}
use Rattle.ltl_closure.proofs.plan.+plan_times.Goals as goal

pub returns : goal.returns
returns t c = on_ok c.plan_times.result c.plan_times.ensures (λ p. times_laid c.args.request c.args.positive c.args.a c.args.n c.args.work.now.items _
    c.plan_times.new.work.items (omega (arith, c.if-n-eq0.false)) c.in_ok-push-2.ensures.items p)
