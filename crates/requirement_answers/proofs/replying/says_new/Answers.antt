use Rattle.std.proofs.Common.{◌∙◌, [], ◌∷◌, sym, subst}
use Rattle.requirement_document.specs.Values.{document_in}
use Rattle.requirement_answers.specs.Inner.{AreItems}
use Rattle.requirement_answers.proofs.Numbered.{without_items}
use Rattle.requirement_answers.proofs.replying.says_new.Goals as goal

pub answer_given-requires-clause-numbers : goal.answer_given-requires-clause-numbers
answer_given-requires-clause-numbers c =
    let d = document_in c.args.document.now in
    subst (AreItems d) (sym (c.deref.ensures.value ∙ c.in_ok-others.ensures)) (without_items d (c.args.number ∷ []) c.args.left.now c.requires.left)
