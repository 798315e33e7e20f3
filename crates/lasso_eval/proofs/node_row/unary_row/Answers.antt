use Rattle.std.proofs.Common.{IfOk, sym, subst}
use Rattle.lasso_eval.specs.Following.{FollowsOne}
use Rattle.lasso_eval.proofs.Results.{if_ok_both}
use Rattle.lasso_eval.proofs.Telling.{not_follows, next_follows, weak_next_follows, yesterday_follows, weak_yesterday_follows, eventually_follows}
use Rattle.lasso_eval.proofs.Telling.{always_follows, once_follows, historically_follows}
use Rattle.lasso_eval.proofs.Ranging.{next_times_follows, yesterday_times_follows, eventually_in_follows, always_in_follows, once_in_follows}
use Rattle.lasso_eval.proofs.Ranging.{historically_in_follows}
use Rattle.lasso_eval.proofs.node_row.unary_row.Goals as goal

pub returns-in-Not : goal.returns-in-Not
returns-in-Not c = subst (λ op. IfOk c.not_row.result (FollowsOne op c.args.a.now c.args.loop_start)) (sym c.in-Not.is) (if_ok_both c.not_row.result _ _ _
    (λ row count each. not_follows c.args.a.now row c.args.loop_start count each) c.not_row.ensures.count c.not_row.ensures.each)

pub returns-in-Next : goal.returns-in-Next
returns-in-Next c = subst (λ op. IfOk c.next_row.result (FollowsOne op c.args.a.now c.args.loop_start)) (sym c.in-Next.is) (if_ok_both c.next_row.result _ _ _
    (λ row count each. next_follows c.args.a.now row c.args.loop_start count each) c.next_row.ensures.count c.next_row.ensures.each)

pub returns-in-WeakNext : goal.returns-in-WeakNext
returns-in-WeakNext c = subst (λ op. IfOk c.next_row-in-WeakNext.result (FollowsOne op c.args.a.now c.args.loop_start))
    (sym c.in-WeakNext.is) (if_ok_both c.next_row-in-WeakNext.result _ _ _ (λ row count each. weak_next_follows c.args.a.now row c.args.loop_start count each)
    c.next_row-in-WeakNext.ensures.count c.next_row-in-WeakNext.ensures.each)

pub returns-in-Yesterday : goal.returns-in-Yesterday
returns-in-Yesterday c =
    subst (λ op. IfOk c.yesterday_row.result (FollowsOne op c.args.a.now c.args.loop_start)) (sym c.in-Yesterday.is) (if_ok_both c.yesterday_row.result _ _ _
    (λ row count each. yesterday_follows c.args.a.now row c.args.loop_start count each) c.yesterday_row.ensures.count c.yesterday_row.ensures.each)

pub returns-in-WeakYesterday : goal.returns-in-WeakYesterday
returns-in-WeakYesterday c =
    subst (λ op. IfOk c.yesterday_row-in-WeakYesterday.result (FollowsOne op c.args.a.now c.args.loop_start)) (sym c.in-WeakYesterday.is)
    (if_ok_both c.yesterday_row-in-WeakYesterday.result _ _ _ (λ row count each. weak_yesterday_follows c.args.a.now row c.args.loop_start count each)
    c.yesterday_row-in-WeakYesterday.ensures.count c.yesterday_row-in-WeakYesterday.ensures.each)

pub returns-in-Eventually : goal.returns-in-Eventually
returns-in-Eventually c =
    subst (λ op. IfOk c.future_row.result (FollowsOne op c.args.a.now c.args.loop_start)) (sym c.in-Eventually.is) (if_ok_both c.future_row.result _ _ _
    (λ row count each. eventually_follows c.args.a.now row c.args.loop_start count each) c.future_row.ensures.count c.future_row.ensures.each)

pub returns-in-Always : goal.returns-in-Always
returns-in-Always c = subst (λ op. IfOk c.future_row-in-Always.result (FollowsOne op c.args.a.now c.args.loop_start))
    (sym c.in-Always.is) (if_ok_both c.future_row-in-Always.result _ _ _ (λ row count each. always_follows c.args.a.now row c.args.loop_start count each)
    c.future_row-in-Always.ensures.count c.future_row-in-Always.ensures.each)

pub returns-in-Once : goal.returns-in-Once
returns-in-Once c = subst (λ op. IfOk c.past_row.result (FollowsOne op c.args.a.now c.args.loop_start)) (sym c.in-Once.is) (if_ok_both c.past_row.result _ _ _
    (λ row count each. once_follows c.args.a.now row c.args.loop_start count each) c.past_row.ensures.count c.past_row.ensures.each)

pub returns-in-Historically : goal.returns-in-Historically
returns-in-Historically c = subst (λ op. IfOk c.past_row-in-Historically.result (FollowsOne op c.args.a.now c.args.loop_start)) (sym c.in-Historically.is)
    (if_ok_both c.past_row-in-Historically.result _ _ _ (λ row count each. historically_follows c.args.a.now row c.args.loop_start count each)
    c.past_row-in-Historically.ensures.count c.past_row-in-Historically.ensures.each)

pub returns-in-NextTimes : goal.returns-in-NextTimes
returns-in-NextTimes c =
    subst (λ op. IfOk c.later_row.result (FollowsOne op c.args.a.now c.args.loop_start)) (sym c.in-NextTimes.is) (if_ok_both c.later_row.result _ _ _
    (λ row count each. next_times_follows c.in-NextTimes.n c.args.a.now row c.args.loop_start count each) c.later_row.ensures.count c.later_row.ensures.each)

pub returns-in-YesterdayTimes : goal.returns-in-YesterdayTimes
returns-in-YesterdayTimes c = subst (λ op. IfOk c.earlier_row.result (FollowsOne op c.args.a.now c.args.loop_start)) (sym c.in-YesterdayTimes.is)
    (if_ok_both c.earlier_row.result _ _ _ (λ row count each. yesterday_times_follows c.in-YesterdayTimes.n c.args.a.now row c.args.loop_start count each)
    c.earlier_row.ensures.count c.earlier_row.ensures.each)

pub returns-in-EventuallyIn : goal.returns-in-EventuallyIn
returns-in-EventuallyIn c = subst (λ op. IfOk c.later_row-in-EventuallyIn.result (FollowsOne op c.args.a.now c.args.loop_start)) (sym c.in-EventuallyIn.is)
    (if_ok_both c.later_row-in-EventuallyIn.result _ _ _ (λ row count each. eventually_in_follows c.in-EventuallyIn.first c.in-EventuallyIn.last c.args.a.now
    row c.args.loop_start count each) c.later_row-in-EventuallyIn.ensures.count c.later_row-in-EventuallyIn.ensures.each)

pub returns-in-AlwaysIn : goal.returns-in-AlwaysIn
returns-in-AlwaysIn c = subst (λ op. IfOk c.later_row-in-AlwaysIn.result (FollowsOne op c.args.a.now c.args.loop_start)) (sym c.in-AlwaysIn.is)
    (if_ok_both c.later_row-in-AlwaysIn.result _ _ _ (λ row count each. always_in_follows c.in-AlwaysIn.first c.in-AlwaysIn.last c.args.a.now row
    c.args.loop_start count each) c.later_row-in-AlwaysIn.ensures.count c.later_row-in-AlwaysIn.ensures.each)

pub returns-in-OnceIn : goal.returns-in-OnceIn
returns-in-OnceIn c = subst (λ op. IfOk c.earlier_row-in-OnceIn.result (FollowsOne op c.args.a.now c.args.loop_start)) (sym c.in-OnceIn.is)
    (if_ok_both c.earlier_row-in-OnceIn.result _ _ _ (λ row count each. once_in_follows c.in-OnceIn.first c.in-OnceIn.last c.args.a.now row c.args.loop_start
    count each) c.earlier_row-in-OnceIn.ensures.count c.earlier_row-in-OnceIn.ensures.each)

pub returns-in-HistoricallyIn : goal.returns-in-HistoricallyIn
returns-in-HistoricallyIn c =
    subst (λ op. IfOk c.earlier_row-in-HistoricallyIn.result (FollowsOne op c.args.a.now c.args.loop_start)) (sym c.in-HistoricallyIn.is)
    (if_ok_both c.earlier_row-in-HistoricallyIn.result _ _ _ (λ row count each. historically_in_follows c.in-HistoricallyIn.first c.in-HistoricallyIn.last
    c.args.a.now row c.args.loop_start count each) c.earlier_row-in-HistoricallyIn.ensures.count c.earlier_row-in-HistoricallyIn.ensures.each)
