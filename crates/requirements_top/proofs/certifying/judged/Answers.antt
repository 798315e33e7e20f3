use Rattle.requirement_document.specs.Values.{document_in}
use Rattle.report.specs.declared.status.Status.TheVariants as statuses
use Rattle.requirement_certificate.specs.Chosen.{HasNoBecause}
use Rattle.requirements_top.specs.Texts.{no_certificate_text}
use Rattle.requirements_top.specs.Certified.{IsJudged, no_certificate}
use Rattle.requirements_top.proofs.Showing.{shown}
use Rattle.requirements_top.proofs.Trying.{tried_judged}
use Rattle.requirements_top.proofs.certifying.judged.Goals as goal

pub returns-in-Some : goal.returns-in-Some
returns-in-Some c =
    let found = rw c.in-Some.is at c.in_ok-text.ensures in
    tried_judged (document_in c.args.document.now) c.args.name.now c.args.scope c.args.report.now c.in-Some.text.items c.tried.result found c.tried.ensures

pub returns-in-None : goal.returns-in-None
returns-in-None c =
    let none : HasNoBecause c.args.report.now c.args.scope = rw c.in-None.is at c.in_ok-text.ensures in
    shown (IsJudged (document_in c.args.document.now) c.args.name.now c.args.scope c.args.report.now) statuses.Negative (no_certificate_text c.args.name.now)
    c.no_certificate.result
    (no_certificate none) c.no_certificate.ensures
