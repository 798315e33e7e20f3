use Rattle.std.proofs.Common.{◌∙◌, map, refl, ap, subst}
use Rattle.requirement_document.specs.Values.{document_in}
use Rattle.requirement_questions.specs.declared.questions.Question.{Question}
use Rattle.requirement_questions.specs.declared.answering.QuestionAnswer.TheVariants.{Cannot}
use Rattle.requirement_questions.specs.Formulas.{formula_in}
use Rattle.requirement_questions.specs.Answer.{IsAnswer}
use Rattle.requirement_answers.proofs.Renumbered.{reason}
use Rattle.requirement_answers.proofs.replying.answer_given.Goals as goal

pub returns-in-Cannot : goal.returns-in-Cannot
returns-in-Cannot c =
    let d = document_in c.args.document.now in
    let q : Question = record { kind = d.kind; given = c.deref.result; asked = c.args.asked } in
    let given = ap (map formula_in) c.deref.ensures.value ∙ c.in_ok-given.ensures.formulas in
    let before = c.in-Cannot.because in
    let found : IsAnswer q (Cannot before) = subst (IsAnswer q) c.in-Cannot.is c.in_ok-trace.ensures in
    reason d c.args.numbers.now c.requires.numbers q refl given before.value c.in_ok-because-in-Cannot.because.value found c.in_ok-because-in-Cannot.ensures
