use Rattle.std.proofs.Common.{◌↔◌, IsTrue, subst}
use Rattle.cnf_base.specs.Step.{numbered}
use Rattle.cnf_base.specs.Among.{IsStepAmong}
use Rattle.log_checker.specs.Values.{letters_in}
use Rattle.claim_check.proofs.Judged.{step_same}
use Rattle.claim_check.proofs.judging.is_step.Goals as goal

pub returns-clause-judged : goal.returns-clause-judged
returns-clause-judged c =
    let clauses = c.args.clauses.now in
    let lines = c.args.lines.now in
    let g = letters_in c.args.assignment.now in
    step_same clauses lines g c.args.literals.now c.args.hints.now (IsTrue c.judge.result)
    (subst (λ hs. IsTrue c.judge.result ↔ IsStepAmong clauses (numbered lines) g c.args.literals.now hs) c.new-2.ensures
    (subst (λ ls. IsTrue c.judge.result ↔ IsStepAmong clauses (numbered lines) g ls c.new-2.result.items.now) c.new.ensures c.judge.ensures.judged))
