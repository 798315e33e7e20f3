use Rattle.std.proofs.Common.{◌↔◌, ◌-◌, ◌<◌, ◌≤◌, IsTrue, length, sym, ◌∙◌, subst, arith}
use mathlib.Core.Bool.{false≢true}
use Rattle.cnf_base.specs.Step.{IsHintedStep}
use Rattle.log_checker.specs.Values.{letters_in}
use Rattle.claim_check.proofs.TakenLines.{first_bad, taken, all_good, all_taken}
use Rattle.claim_check.proofs.taking.take_lines.Goals as goal

pub returns-then-not-is_step-clause-judged : goal.returns-then-not-is_step-clause-judged
returns-then-not-is_step-clause-judged c =
    let literals = c.clause-literals.result.now in
    let hints = c.hints_at-hints.result.now in
    let cs = c.args.hinted.now.literals in
    let low : c.lines.k < length cs = omega (arith, c.lines-test.true, c.count-k-end.ensures) in
    let law = subst (λ n. IsTrue c.is_step.result ↔ IsHintedStep c.args.clauses.now c.lines.lines (n - 1) literals hints)
    c.lines.invariant.1 c.is_step.ensures.judged in
    first_bad c.args.clauses.now c.args.lines.now (letters_in c.args.assignment.now) cs c.args.hinted.now.hints c.lines.k c.lines.lines c.lines.invariant.2 low
    literals hints c.clause-literals.ensures c.hints_at-hints.ensures (λ step. false≢true (sym c.if-not-is_step.true ∙ law.1 step))

pub lines-preserved : goal.lines-preserved
lines-preserved c =
    let literals = c.clause-literals.result.now in
    let hints = c.hints_at-hints.result.now in
    let cs = c.args.hinted.now.literals in
    let low : c.lines.k < length cs = omega (arith, c.lines-test.true, c.count-k-end.ensures) in
    let law = subst (λ n. IsTrue c.is_step.result ↔ IsHintedStep c.args.clauses.now c.lines.lines (n - 1) literals hints)
    c.lines.invariant.1 c.is_step.ensures.judged in (
      omega (arith, low),
      c.is_step.ensures.size ∙ c.lines.invariant.1,
      taken c.args.clauses.now c.args.lines.now (letters_in c.args.assignment.now) cs c.args.hinted.now.hints c.lines.k c.lines.lines c.lines.invariant.2 low
          literals hints c.clause-literals.ensures c.hints_at-hints.ensures (law.0 c.if-not-is_step.false) c.push.new.self c.in_ok-push.ensures,
    )

pub returns-clause-judged : goal.returns-clause-judged
returns-clause-judged c =
    all_good c.args.clauses.now c.args.lines.now (letters_in c.args.assignment.now)
    c.args.hinted.now.literals c.args.hinted.now.hints c.lines.k c.lines.lines c.lines.invariant.2
    (omega (arith, c.lines-test.false, c.count-k-end.ensures))

pub returns-clause-taken : goal.returns-clause-taken
returns-clause-taken c = λ none.
    let most : length c.args.hinted.now.literals ≤ c.lines.k = omega (arith, c.lines-test.false, c.count-k-end.ensures) in
    all_taken c.args.clauses.now c.args.lines.now (letters_in c.args.assignment.now)
    c.args.hinted.now.literals c.args.hinted.now.hints c.lines.k c.lines.lines c.lines.invariant.2
    (omega (arith, most, c.lines.invariant.0))
