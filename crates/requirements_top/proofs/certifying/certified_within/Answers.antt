use Rattle.report.specs.declared.status.Status.TheVariants as statuses
use Rattle.requirement_document.specs.Values.{document_in}
use Rattle.requirement_answers.specs.declared.findings.ReportRefused.TheVariants as refusals
use Rattle.requirement_answers.specs.Reports.{IsRefused}
use Rattle.requirements_top.specs.Texts.{cells_text}
use Rattle.requirements_top.specs.Certified.{IsCertified, too_long}
use Rattle.requirements_top.proofs.Showing.{shown}
use Rattle.requirements_top.proofs.Trying.{judged_certified}
use Rattle.requirements_top.proofs.certifying.certified_within.Goals as goal

pub judged-requires : goal.judged-requires
judged-requires g c = c.reports_have_formulas.ensures (document_in c.args.document.now) c.args.scope c.in-Ok.report c.in-Ok.ensures.report

pub returns-in-Ok-clause-printed : goal.returns-in-Ok-clause-printed
returns-in-Ok-clause-printed g c = judged_certified (document_in c.args.document.now) c.args.name.now
    c.args.scope c.in-Ok.report c.judged.result c.requires.named c.in-Ok.ensures.report c.judged.ensures

pub returns-in-Err-Cells-clause-printed : goal.returns-in-Err-Cells-clause-printed
returns-in-Err-Cells-clause-printed g c =
    let d = document_in c.args.document.now in
    let behaviour = c.in-Err-Cells.behaviour in
    let item = c.in-Err-Cells.field-0-1 in
    let is : IsRefused d c.args.scope (refusals.Cells behaviour item) = rw c.in-Err-Cells.field-0-is at c.in-Err-Cells.ensures.refused in
    shown (IsCertified d c.args.name.now) statuses.Limit (cells_text d behaviour) c.cells.result
    (too_long c.args.scope behaviour item c.requires.named is) (rw c.in-Err-Cells.behaviour-is at c.cells.ensures)
