use Rattle.std.proofs.Common.{[], subst}
use Rattle.requirement_document.specs.Values.{document_in}
use Rattle.requirement_questions.specs.declared.answering.QuestionAnswer.TheVariants.{Cannot}
use Rattle.requirement_answers.specs.Answers.{IsAnswerTo}
use Rattle.requirement_answers.proofs.Conflict.{has_member}
use Rattle.requirement_answers.proofs.conflicts.met_together.Goals as goal

pub returns-in-Cannot : goal.returns-in-Cannot
returns-in-Cannot c =
    let d = document_in c.args.document.now in
    let left = c.args.left.now in
    let b = c.in-Cannot.because in
    let found : IsAnswerTo d left [] (Cannot b) = subst (IsAnswerTo d left []) c.in-Cannot.is c.in_ok-trace.ensures in
    (found, has_member d left b.value found)
