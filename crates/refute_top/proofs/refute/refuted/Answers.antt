use Rattle.std.proofs.Common.{◌∙◌, IfOk, subst}
use Rattle.claim_check.specs.Data.{certificate_in}
use Rattle.claim_reading.specs.Never.{never_text}
use Rattle.refute_top.specs.Answer.{unsat}
use Rattle.refute_top.specs.Refuting.{IsFound, refuted}
use Rattle.refute_top.specs.Inner.{Shows}
use Rattle.refute_top.proofs.Showing.{shown}
use Rattle.refute_top.proofs.refute.refuted.Goals as goal

pub returns : goal.returns
returns c =
    let value = c.args.closure.now in
    let certificate = certificate_in c.args.found.now in
    let shows = subst (λ lines. IfOk c.unsat.result (λ out. Shows out (unsat lines))) (c.deref.ensures.value ∙ c.in_ok-lines.ensures) c.unsat.ensures in
    shown (IsFound value.kind c.args.cert value.formula) (unsat (never_text value.formula certificate)) c.unsat.result
    (refuted certificate c.if-cert.false c.requires) shows
