use Rattle.std.proofs.Common.{sym, subst}
use Rattle.ltl_syntax.specs.Table.{tree_at}
use Rattle.batch_run.specs.Outcomes.{IsOutcome}
use Rattle.batch_run.proofs.Decided.{outcome_of_fault, shown_outcome}
use Rattle.batch_run.proofs.deciding.outcome.Goals as goal

pub returns-in-Formula : goal.returns-in-Formula
returns-in-Formula c =
    let reading = rw c.in-Formula.is at c.in_ok-table.ensures in
    shown_outcome c.args.text.now (tree_at c.in-Formula.table c.in-Formula.root) c.args.kind c.args.asked c.verdict.result reading.1 c.verdict.ensures

pub returns-in-Refused : goal.returns-in-Refused
returns-in-Refused c =
    let wrong = rw c.in-Refused.is at c.in_ok-table.ensures in
    subst (IsOutcome c.args.kind c.args.asked c.args.text.now) (sym c.refusal_of.ensures)
    (outcome_of_fault c.args.kind c.args.asked c.args.text.now c.in-Refused.fault wrong)
