use Rattle.std.proofs.Common.{arith}
use Rattle.ltl_closure.proofs.Steps.{on_ok}
use Rattle.ltl_closure.proofs.Laying.{window_laid, first_laid}
use Rattle.ltl_closure.proofs.plan.+plan_window.Goals as goal

pub returns-then-from-eq0-2 : goal.returns-then-from-eq0-2
returns-then-from-eq0-2 t c =
    first_laid c.args.connective c.args.none c.args.request c.args.positive c.args.a c.args.from c.args.to c.args.work.now.items _ _ _ _
    (omega (arith, c.if-from-eq0-2.true)) (omega (arith, c.if-to-eq0-2.false))
    c.in_ok-push-3.ensures.items c.in_ok-push-4.ensures.items c.in_ok-plan_window.ensures c.in_ok-push-5.ensures.items

pub returns : goal.returns
returns t c =
    on_ok c.plan_window-2.result c.plan_window-2.ensures (λ p. window_laid c.args.connective c.args.none c.args.request c.args.positive c.args.a c.args.from
    c.args.to c.args.work.now.items _ c.plan_window-2.new.work.items
    (omega (arith, c.if-from-eq0-2.false)) (omega (arith, c.if-to-eq0-2.false)) c.in_ok-push-6.ensures.items p)
