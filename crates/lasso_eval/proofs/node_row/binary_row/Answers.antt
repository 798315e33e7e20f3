use Rattle.std.proofs.Common.{IfOk, sym, subst}
use Rattle.lasso_eval.specs.Following.{FollowsTwo}
use Rattle.ltl_syntax.specs.declared.node.BinaryOp.TheVariants.{And, Iff, Implies, Or}
use Rattle.lasso_eval.specs.declared.local.Connective.TheVariants as connectives
use Rattle.lasso_eval.proofs.Results.{if_ok_both}
use Rattle.lasso_eval.proofs.Telling.{and_is, or_is, implies_is, iff_is, connective_follows, until_follows, release_follows, weak_until_follows}
use Rattle.lasso_eval.proofs.Telling.{strong_release_follows, since_follows, trigger_follows}
use Rattle.lasso_eval.proofs.node_row.binary_row.Goals as goal

pub returns-in-And : goal.returns-in-And
returns-in-And c =
    subst (λ op. IfOk c.connective_row.result (FollowsTwo op c.args.a.now c.args.b.now c.args.loop_start)) (sym c.in-And.is) (if_ok_both c.connective_row.result
    _ _ _ (λ row count each. connective_follows And connectives.And and_is c.args.a.now c.args.b.now row c.args.loop_start count each)
    c.connective_row.ensures.count c.connective_row.ensures.each)

pub returns-in-Or : goal.returns-in-Or
returns-in-Or c = subst (λ op. IfOk c.connective_row-in-Or.result (FollowsTwo op c.args.a.now c.args.b.now c.args.loop_start))
    (sym c.in-Or.is) (if_ok_both c.connective_row-in-Or.result _ _ _ (λ row count each. connective_follows Or connectives.Or or_is c.args.a.now c.args.b.now row
    c.args.loop_start count each) c.connective_row-in-Or.ensures.count c.connective_row-in-Or.ensures.each)

pub returns-in-Implies : goal.returns-in-Implies
returns-in-Implies c = subst (λ op. IfOk c.connective_row-in-Implies.result (FollowsTwo op c.args.a.now c.args.b.now c.args.loop_start)) (sym c.in-Implies.is)
    (if_ok_both c.connective_row-in-Implies.result _ _ _ (λ row count each. connective_follows Implies connectives.Implies implies_is c.args.a.now c.args.b.now
    row c.args.loop_start count each) c.connective_row-in-Implies.ensures.count c.connective_row-in-Implies.ensures.each)

pub returns-in-Iff : goal.returns-in-Iff
returns-in-Iff c = subst (λ op. IfOk c.connective_row-in-Iff.result (FollowsTwo op c.args.a.now c.args.b.now c.args.loop_start)) (sym c.in-Iff.is)
    (if_ok_both c.connective_row-in-Iff.result _ _ _ (λ row count each. connective_follows Iff connectives.Iff iff_is c.args.a.now c.args.b.now row
    c.args.loop_start count each) c.connective_row-in-Iff.ensures.count c.connective_row-in-Iff.ensures.each)

pub returns-in-Until : goal.returns-in-Until
returns-in-Until c =
    subst (λ op. IfOk c.future_row.result (FollowsTwo op c.args.a.now c.args.b.now c.args.loop_start)) (sym c.in-Until.is) (if_ok_both c.future_row.result _ _ _
    (λ row count each. until_follows c.args.a.now c.args.b.now row c.args.loop_start count each) c.future_row.ensures.count c.future_row.ensures.each)

pub returns-in-Release : goal.returns-in-Release
returns-in-Release c = subst (λ op. IfOk c.future_row-in-Release.result (FollowsTwo op c.args.a.now c.args.b.now c.args.loop_start)) (sym c.in-Release.is)
    (if_ok_both c.future_row-in-Release.result _ _ _ (λ row count each. release_follows c.args.a.now c.args.b.now row c.args.loop_start count each)
    c.future_row-in-Release.ensures.count c.future_row-in-Release.ensures.each)

pub returns-in-WeakUntil : goal.returns-in-WeakUntil
returns-in-WeakUntil c = subst (λ op. IfOk c.future_row-in-WeakUntil.result (FollowsTwo op c.args.a.now c.args.b.now c.args.loop_start)) (sym c.in-WeakUntil.is)
    (if_ok_both c.future_row-in-WeakUntil.result _ _ _ (λ row count each. weak_until_follows c.args.a.now c.args.b.now row c.args.loop_start count each)
    c.future_row-in-WeakUntil.ensures.count c.future_row-in-WeakUntil.ensures.each)

pub returns-in-StrongRelease : goal.returns-in-StrongRelease
returns-in-StrongRelease c =
    subst (λ op. IfOk c.future_row-in-StrongRelease.result (FollowsTwo op c.args.a.now c.args.b.now c.args.loop_start)) (sym c.in-StrongRelease.is)
    (if_ok_both c.future_row-in-StrongRelease.result _ _ _ (λ row count each. strong_release_follows c.args.a.now c.args.b.now row c.args.loop_start count each)
    c.future_row-in-StrongRelease.ensures.count c.future_row-in-StrongRelease.ensures.each)

pub returns-in-Since : goal.returns-in-Since
returns-in-Since c =
    subst (λ op. IfOk c.past_row.result (FollowsTwo op c.args.a.now c.args.b.now c.args.loop_start)) (sym c.in-Since.is) (if_ok_both c.past_row.result _ _ _
    (λ row count each. since_follows c.args.a.now c.args.b.now row c.args.loop_start count each) c.past_row.ensures.count c.past_row.ensures.each)

pub returns-in-Trigger : goal.returns-in-Trigger
returns-in-Trigger c = subst (λ op. IfOk c.past_row-in-Trigger.result (FollowsTwo op c.args.a.now c.args.b.now c.args.loop_start)) (sym c.in-Trigger.is)
    (if_ok_both c.past_row-in-Trigger.result _ _ _ (λ row count each. trigger_follows c.args.a.now c.args.b.now row c.args.loop_start count each)
    c.past_row-in-Trigger.ensures.count c.past_row-in-Trigger.ensures.each)
