use Rattle.report.specs.declared.status.Status.TheVariants as statuses
use Rattle.requirement_document.specs.Values.{document_in}
use Rattle.requirements_top.specs.Naming.{HasNoName}
use Rattle.requirements_top.specs.Texts.{no_item_text}
use Rattle.requirements_top.specs.Certified.{IsCertified, unnamed}
use Rattle.requirements_top.proofs.Showing.{shown}
use Rattle.requirements_top.proofs.certifying.certified.Goals as goal

pub returns-in-None-clause-printed : goal.returns-in-None-clause-printed
returns-in-None-clause-printed g c =
    let d = document_in c.args.document.now in
    let name = c.args.name.now in
    let none : HasNoName d name = rw c.in-None.is at c.in_ok-scope.ensures in
    shown (IsCertified d name) statuses.Usage (no_item_text name) c.no_item.result (unnamed none) c.no_item.ensures
