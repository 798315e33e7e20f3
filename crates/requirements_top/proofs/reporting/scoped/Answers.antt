use Rattle.report.specs.declared.status.Status.TheVariants as statuses
use Rattle.requirement_document.specs.Values.{document_in}
use Rattle.requirement_answers.specs.declared.findings.ReportRefused.TheVariants as refusals
use Rattle.requirement_answers.specs.Reports.{IsRefused}
use Rattle.requirements_top.specs.Said.{request_of}
use Rattle.requirements_top.specs.Texts.{cells_text}
use Rattle.requirements_top.specs.Answer.{IsReported, cells}
use Rattle.requirements_top.proofs.Showing.{shown, reported}
use Rattle.requirements_top.proofs.reporting.scoped.Goals as goal

pub shown-requires : goal.shown-requires
shown-requires g c = c.reports_can_be_shown.ensures (document_in c.args.document.now) c.args.scope c.in-Ok.report c.in-Ok.ensures.report

pub returns-in-Ok-clause-printed : goal.returns-in-Ok-clause-printed
returns-in-Ok-clause-printed g c = reported c.args.document.now (request_of c.args.request)
    c.args.scope c.in-Ok.report c.shown.result c.requires.asked c.in-Ok.ensures.report c.shown.ensures

pub returns-in-Err-Cells-clause-printed : goal.returns-in-Err-Cells-clause-printed
returns-in-Err-Cells-clause-printed g c =
    let d = document_in c.args.document.now in
    let behaviour = c.in-Err-Cells.behaviour in
    let item = c.in-Err-Cells.field-0-1 in
    let is : IsRefused d c.args.scope (refusals.Cells behaviour item) = rw c.in-Err-Cells.field-0-is at c.in-Err-Cells.ensures.refused in
    shown (IsReported c.args.document.now (request_of c.args.request)) statuses.Limit (cells_text d behaviour) c.cells.result
    (cells c.args.scope behaviour item c.requires.asked is) (rw c.in-Err-Cells.behaviour-is at c.cells.ensures)
