use Rattle.ltl_syntax.specs.Table.{tree_at}
use Rattle.report.specs.declared.fault.Fault.TheVariants as faults
use Rattle.program_input.specs.Reading.{uncut, unread, accepted}
use Rattle.refute_top.specs.Answer.{refused}
use Rattle.refute_top.specs.Checking.{IsChecked, IsPartedCheck}
use Rattle.refute_top.proofs.Showing.{shown, shown_as}
use Rattle.refute_top.proofs.check.check.Goals as goal

pub returns-in_default : goal.returns-in_default
returns-in_default c =
    shown (IsPartedCheck c.args.kind c.args.input.now) (refused faults.NoSeparator) c.refusal.result (uncut c.in_default.ensures) c.refusal.ensures

pub returns-in-Refused : goal.returns-in-Refused
returns-in-Refused c =
    let parts = c.in-Some.parts in
    let refuses = rw c.in-Refused.is at c.in_ok-fault.ensures in
    shown (IsPartedCheck c.args.kind c.args.input.now) (refused c.in-Refused.fault) c.refusal-in-Refused.result
    (unread parts.formula.now parts.second.now c.in-Refused.fault c.in-Some.ensures refuses) c.refusal-in-Refused.ensures

pub returns-in-Formula : goal.returns-in-Formula
returns-in-Formula c =
    let parts = c.in-Some.parts in
    let f = tree_at c.in-Formula.table c.in-Formula.root in
    let reading = rw c.in-Formula.is at c.in_ok-fault.ensures in
    shown_as (IsChecked c.args.kind f parts.second.now) (IsPartedCheck c.args.kind c.args.input.now) c.judge.result
    (λ a h. accepted parts.formula.now parts.second.now f a c.in-Some.ensures reading.1 h) c.judge.ensures
