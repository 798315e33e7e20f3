use Rattle.std.proofs.Common.{◌↔◌, ◌-◌, [], get_or, IsTrue, subst}
use Rattle.cnf_base.specs.Among.{IsStepAmong}
use Rattle.cert_text.specs.Live.{lines_of, live_at}
use Rattle.log_checker.specs.Values.{letters_in}
use Rattle.log_checker.proofs.worker.is_good.Goals as goal

pub returns-clause-good : goal.returns-clause-good
returns-clause-good g c =
    let clauses = g.C.NamedClauses.clauses c.args.clauses.now in
    let lines = live_at c.args.view.now.parts (c.args.line - 1) in
    let line = get_or (lines_of c.args.view.now.parts) (c.args.line - 1) [] in
    let letters = letters_in c.args.assignment.now in
    let r = c.judge.result in
    subst (λ hs. IsTrue r ↔ IsStepAmong clauses lines letters line hs) c.hints.ensures
    (subst (λ ls. IsTrue r ↔ IsStepAmong clauses lines letters ls c.hints.result) c.literals.ensures c.judge.ensures.judged)
