use Rattle.std.proofs.Common.{◌<◌, refl, sym, subst, ap, arith, Err}
use Rattle.lasso_eval.specs.Cells.{cells, max_cells}
use Rattle.ltl_syntax.specs.Table.{tree_at}
use Rattle.requirement_questions.specs.Failure.{IsFirstFailure}
use Rattle.requirement_document.specs.Values.{document_in}
use Rattle.requirement_answers.specs.Items.{formula_of}
use Rattle.requirement_answers.proofs.Checked.{trace_at, is_trace}
use Rattle.requirement_answers.proofs.checking.place_of.Goals as goal

pub first_failure-requires-clause-trace : goal.first_failure-requires-clause-trace
first_failure-requires-clause-trace c =
    is_trace c.args.document.now c.args.behaviour c.index-recorded.result.now c.requires.behaviour c.index-recorded.ensures c.requires.traces

pub returns-in-Ok-clause-place : goal.returns-in-Ok-clause-place
returns-in-Ok-clause-place c =
    let d = c.args.document.now in
    let b = c.index-recorded.result.now in
    let at_item = subst (λ f. IsFirstFailure b.trace f c.in-Ok.place) c.item_at-item.ensures.formula c.in-Ok.ensures.first in
    subst (λ t. IsFirstFailure t (formula_of (document_in d) c.args.number) c.in-Ok.place)
    (sym (trace_at d c.args.behaviour b c.requires.behaviour c.index-recorded.ensures)) at_item

pub returns-in-Err-Cells-clause-refused : goal.returns-in-Err-Cells-clause-refused
returns-in-Err-Cells-clause-refused c =
    let d = c.args.document.now in
    let b = c.index-recorded.result.now in
    let many = c.in-Err-Cells.ensures.many c.in-Err-Cells.field-0-0 (ap Err c.in-Err-Cells.field-0-is) in
    let here : max_cells < cells b.trace (tree_at c.item_at-item.result.table.now c.item_at-item.result.root) = omega (arith, many.0, many.1) in
    let at_item = subst (λ f. max_cells < cells b.trace f) c.item_at-item.ensures.formula here in (
      refl,
      refl,
      subst (λ t. max_cells < cells t (formula_of (document_in d) c.args.number))
          (sym (trace_at d c.args.behaviour b c.requires.behaviour c.index-recorded.ensures)) at_item,
    )
