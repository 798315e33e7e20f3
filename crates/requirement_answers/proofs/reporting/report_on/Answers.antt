use Rattle.std.proofs.Common.{◌∙◌, sym, ap, subst}
use Rattle.std.specs.List.{All}
use Rattle.requirement_document.specs.Values.{document_in}
use Rattle.requirement_answers.specs.Items.{given_numbers}
use Rattle.requirement_answers.specs.Asking.{questions_of}
use Rattle.requirement_answers.specs.Answers.{AreCores}
use Rattle.requirement_answers.specs.Inner.{SaysMembers, AreReplies}
use Rattle.requirement_answers.proofs.Told.{each_says}
use Rattle.requirement_answers.proofs.reporting.report_on.Goals as goal

pub cores-requires : goal.cores-requires
cores-requires g c =
    let d = document_in c.args.document.now in
    let m = c.in_ok-together.together.value in
    let conflicts = c.deref-2.ensures.value ∙ ap (λ m. m.conflicts.items) c.deref.ensures in
    subst (All (SaysMembers d)) (sym conflicts) (each_says d (given_numbers d) m.left.items m.conflicts.items c.in_ok-together.ensures.conflicts)

pub returns-clause-report : goal.returns-clause-report
returns-clause-report g c =
    let d = document_in c.args.document.now in
    let conflicts = c.deref-2.ensures.value ∙ ap (λ m. m.conflicts.items) c.deref.ensures in
    let told = subst (λ xs. AreCores d xs c.in_ok-told.told.items) conflicts c.in_ok-told.ensures in
    let left = c.deref-4.ensures.value ∙ ap (λ m. m.left.items) c.deref-3.ensures in
    let replied = subst (λ xs. AreReplies d xs (questions_of d c.args.scope xs) c.in_ok-replied.replied.items) left c.in_ok-replied.ensures in
    c.assembled.ensures d c.args.scope c.in_ok-together.ensures told replied c.in-Ok.ensures.checks
