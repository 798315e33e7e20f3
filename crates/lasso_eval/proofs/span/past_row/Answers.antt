use Rattle.std.proofs.Common.{◌≡◌, ◌+◌, suc, false, ap, subst, ◌∙◌, arith}
use Rattle.lasso_eval.specs.Rows.{cell}
use Rattle.lasso_eval.specs.Spans.{step, swept_before}
use Rattle.lasso_eval.proofs.Pushing.{each_pushed, length_pushed}
use Rattle.lasso_eval.proofs.span.past_row.Goals as goal

pub loop-i-preserved : goal.loop-i-preserved
loop-i-preserved c =
    let i = c.loop-i.i in
    let span = c.args.span in
    let a = c.args.a.now in
    let b = c.args.b.now in
    let xs = c.loop-i.cells.items in
    let stepped : c.step-value.result ≡ swept_before span a b (suc i) =
    c.step-value.ensures ∙ ap (λ v. step span (cell a i) (cell b i) v) c.loop-i.invariant.value in
    let next : suc i ≡ i + 1 = omega arith in
    record {
      count = rw c.in_ok-push.ensures.items (length_pushed xs c.step-value.result i c.loop-i.invariant.count);
      value = subst (λ m. c.step-value.result ≡ swept_before span a b m) next stepped;
      each = rw c.in_ok-push.ensures.items
          (each_pushed false xs c.step-value.result i (λ k v. v ≡ swept_before span a b (suc k)) c.loop-i.invariant.count c.loop-i.invariant.each stepped);
    }
