use Rattle.std.proofs.Common.{sym, ap, subst}
use Rattle.cnf_base.specs.Step.{IsHintedStep}
use Rattle.clause_log.specs.LogValue.{greatest_u32}
use Rattle.cdcl_state.specs.StateValue.{StateValue}
use Rattle.cdcl.specs.Solving.{IsAfter, IsLineOf}
use Rattle.cdcl.specs.declared.solve.Answer.TheVariants.{Unsat}
use Rattle.cdcl.proofs.Search.{after_none}
use Rattle.cdcl.proofs.OneHint.{line_says, pushed}
use Rattle.cdcl.proofs.solve.finish.Goals as goal

pub returns-in_err-line-clause-kept : goal.returns-in_err-line-clause-kept
returns-in_err-line-clause-kept c = subst (IsAfter c.args.state.now) (sym c.in_err-line.ensures.refused) (after_none c.args.state.now)

pub returns-in-Line-clause-kept : goal.returns-in-Line-clause-kept
returns-in-Line-clause-kept c = after_none c.args.state.now

pub returns-in-Line-clause-answer : goal.returns-in-Line-clause-answer
returns-in-Line-clause-answer c =
    let step = subst (IsHintedStep c.args.state.now.log.inputs c.args.state.now.log.lines greatest_u32 c.args.learnt.now.clause.items)
    (sym c.as_slice-hints.ensures.value) c.requires.step in
    line_says c.args.state.now c.args.learnt.now.clause.items c.as_slice-hints.result.now c.in-Line.line _ step
    c.if-hints-eq1.true c.in-Line.is

pub returns-clause-answer : goal.returns-clause-answer
returns-clause-answer c =
    let added = c.in_ok-line.ensures.added in
    subst (λ clause. IsLineOf c.derive.new.self clause (Unsat c.in_ok-line.line)) c.deref.ensures.value
    (pushed c.derive.new.self c.args.state.now.log.lines c.deref.result.now c.in_ok-line.line (ap (λ (s : StateValue). s.log.lines) added.0) added.1)
