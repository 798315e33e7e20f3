use Rattle.std.proofs.lemmas.Result.{on_ok_weaker}
use Rattle.requirement_answers.specs.declared.asking.Asking.TheVariants as askings
use Rattle.requirement_document.specs.Values.{document_in}
use Rattle.requirement_report.specs.Lines.{of_all}
use Rattle.requirement_report.specs.Text.{word_of}
use Rattle.requirement_page.specs.Marks.{begun, ended}
use Rattle.requirement_page.specs.Reasons.{without}
use Rattle.requirement_page.specs.Answers.{sort_of, answered}
use Rattle.requirement_page.proofs.Pieces.{from, by, before, where_ok}
use Rattle.requirement_page.proofs.answers.put_together.Goals as goal

pub returns : goal.returns
returns c =
    let d = document_in c.args.document.now in
    on_ok_weaker c.extend_from_slice.result (λ e. (before (from c.args.out.now.items (begun (sort_of askings.Together c.args.answer.now) c.args.number
    (word_of askings.Together c.args.answer.now) (of_all c.args.count.left c.args.count.all)) c.in_ok-put_together_begun.ensures)
    (before (by (without d c.args.aside.now) c.in_ok-put_without.ensures)
    (before (by (answered d c.args.limits.steps askings.Together c.args.answer.now) c.in_ok-put_answered.ensures)
    (by (ended) e)))).is) (where_ok c.extend_from_slice.result c.put_answered.new.out.items (ended) _ c.extend_from_slice.ensures.items)
