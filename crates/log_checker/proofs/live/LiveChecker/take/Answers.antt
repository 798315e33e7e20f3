use Rattle.std.proofs.Common.{◌↔◌, IsTrue, sym, subst}
use Rattle.cnf_base.specs.Among.{IsStepAmong}
use Rattle.cert_text.specs.declared.item.CertItem.TheVariants as items
use Rattle.log_checker.specs.Values.{letters_in}
use Rattle.log_checker.specs.Judging.{found, IsGoodItem}
use Rattle.log_checker.proofs.live.LiveChecker.take.Goals as goal

pub returns-in_ok-push-in-Line-clause-judged : goal.returns-in_ok-push-in-Line-clause-judged
returns-in_ok-push-in-Line-clause-judged g c =
    let clauses = g.C.NamedClauses.clauses c.args.clauses.now in
    let good = c.judge-good.result in
    let hints = c.in-Line.hints in
    let a = c.self.inside.assignment in
    let here = subst (λ ls. IsTrue good ↔ IsStepAmong clauses (found c.self.inside.kept.live) (letters_in a) ls hints)
    c.again-again.ensures c.judge-good.ensures.judged in
    subst (λ i. IsGoodItem clauses c.args.self.now i good) (sym c.in-Line.is)
    (subst (λ v. IsGoodItem clauses v (items.Line c.in-Line.literals hints) good) c.self.view_is here)
