use Rattle.std.proofs.Common.{refl}
use Rattle.report.specs.declared.status.Status.TheVariants as statuses
use Rattle.requirement_document.specs.Values.{document_in}
use Rattle.requirements_top.specs.Said.{request_of}
use Rattle.requirements_top.specs.Naming.{HasNoName}
use Rattle.requirements_top.specs.Texts.{no_item_text}
use Rattle.requirements_top.specs.Answer.{IsReported, no_item}
use Rattle.requirements_top.proofs.Showing.{shown}
use Rattle.requirements_top.proofs.reporting.report.Goals as goal

pub returns-in-None-clause-printed : goal.returns-in-None-clause-printed
returns-in-None-clause-printed g c =
    let name = c.in-Some.name.now in
    let none : HasNoName (document_in c.args.document.now) name = rw c.in-None.is at c.in_ok-scope.ensures in
    shown (IsReported c.args.document.now (request_of c.args.request)) statuses.Usage (no_item_text name) c.no_item.result
    (no_item name (rw c.in-Some.is refl) none) c.no_item.ensures
