use Rattle.std.proofs.Common.{◌∙◌, ◌++◌, sym, ap}
use Rattle.requirement_document.specs.Values.{document_in}
use Rattle.requirement_answers.specs.Inner.{asks_covered}
use Rattle.requirement_answers.proofs.Planned.{questions_more}
use Rattle.requirement_answers.proofs.planning.questions.Goals as goal

pub items-preserved : goal.items-preserved
items-preserved c =
    let d = document_in c.args.document.now in
    let k = c.items.number in
    let left = c.args.left.now in
    record {
      so_far =
          c.in_ok-add_covered.ensures
          ∙ (ap (λ xs. xs ++ asks_covered d c.args.scope left k) c.items.invariant.so_far ∙ sym (questions_more d c.args.scope left k));
    }
