use Rattle.std.proofs.Common.{◌↔◌, ◌+◌, ◌-◌, IsTrue, ◌∙◌, subst}
use Rattle.cert_text.specs.Live.{IsGoodLine}
use Rattle.log_checker.specs.Values.{letters_in}
use Rattle.log_checker.proofs.AtLine.{good_more}
use Rattle.log_checker.proofs.worker.first_bad.Goals as goal

pub lines-preserved : goal.lines-preserved
lines-preserved g c =
    let clauses = g.C.NamedClauses.clauses c.args.clauses.now in
    let parts = c.args.view.now.parts in
    let Good = IsGoodLine clauses (letters_in c.args.assignment.now) parts in
    let law = subst (λ n. IsTrue c.is_good.result ↔ IsGoodLine clauses (n - 1) parts (c.lines.index + 1 - 1)) c.lines.invariant.0 c.is_good.ensures.good in
    (c.is_good.ensures.size ∙ c.lines.invariant.0, good_more Good c.args.from c.lines.index c.is_good.result c.lines.invariant.1 law c.if-not-is_good.false)
