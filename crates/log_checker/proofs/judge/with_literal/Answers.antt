use Rattle.std.proofs.Common.{sym, ◌∙◌, subst}
use Rattle.log_checker.specs.Values.{falses_in}
use Rattle.log_checker.specs.Judging.{IsOutcome}
use Rattle.log_checker.proofs.Falses.{false_from, true_is, unset_is, not_both}
use Rattle.log_checker.proofs.Outcomes.{false_more, true_more, open_first, open_again, open_second, neither_more, same_literal, other_literal}
use Rattle.log_checker.proofs.judge.with_literal.Goals as goal

pub returns-in-False : goal.returns-in-False
returns-in-False c = λ clause is.
    let values = c.args.assignment.now in
    false_more (falses_in values) clause c.args.literal c.args.outcome (false_from values c.args.literal (sym c.value.ensures ∙ c.in-False.is)) is

pub returns-in-True : goal.returns-in-True
returns-in-True c = λ clause is.
    let values = c.args.assignment.now in
    let opposite_false = true_is values c.args.literal (sym c.value.ensures ∙ c.in-True.is) in
    true_more (falses_in values) clause c.args.literal (λ here. not_both values c.args.literal here opposite_false) opposite_false

pub returns-in-AllFalse : goal.returns-in-AllFalse
returns-in-AllFalse c = λ clause is.
    let values = c.args.assignment.now in
    let unset = unset_is values c.args.literal (sym c.value.ensures ∙ c.in-Unset.is) in
    open_first (falses_in values) clause c.args.literal unset.0 unset.1 (subst (IsOutcome (falses_in values) clause) c.in-AllFalse.is is)

pub returns-then-eq : goal.returns-then-eq
returns-then-eq c = λ clause is.
    open_again (falses_in c.args.assignment.now) clause c.args.literal c.in-Forces.other
    (same_literal c.in-Forces.other c.args.literal (sym c.eq.ensures ∙ c.if-eq.true))
    (subst (IsOutcome (falses_in c.args.assignment.now) clause) c.in-Forces.is is)

pub returns-else-eq : goal.returns-else-eq
returns-else-eq c = λ clause is.
    let values = c.args.assignment.now in
    let unset = unset_is values c.args.literal (sym c.value.ensures ∙ c.in-Unset.is) in
    open_second (falses_in values) clause c.args.literal c.in-Forces.other
    (other_literal c.in-Forces.other c.args.literal (sym c.eq.ensures ∙ c.if-eq.false)) unset.0
    (subst (IsOutcome (falses_in values) clause) c.in-Forces.is is)

pub returns-in-Neither : goal.returns-in-Neither
returns-in-Neither c = λ clause is.
    let F = falses_in c.args.assignment.now in
    let same = subst (IsOutcome F clause) c.in-Neither.is is in
    subst (IsOutcome F _) (sym c.in-Neither.is) (neither_more F clause _ same)
