use Rattle.std.proofs.Common.{◌≡◌, ◌-◌, length, ap, sym, subst, ◌∙◌, arith}
use Rattle.lasso_eval.specs.Rows.{cell}
use Rattle.lasso_eval.specs.Spans.{beyond, step, swept_back}
use Rattle.lasso_eval.proofs.Sweeping.{swept_further, swept_nowhere}
use Rattle.lasso_eval.proofs.span.once_around.Goals as goal

pub loop-i-init : goal.loop-i-init
loop-i-init c = record {
  within = omega arith;
  above = c.requires.within;
  value = c.beyond-value.ensures ∙ sym (swept_nowhere c.args.span c.args.a.now c.args.b.now (length c.args.a.now) (beyond c.args.span));
}

pub loop-i-preserved : goal.loop-i-preserved
loop-i-preserved c =
    let i = c.loop-i.i in
    record {
      within = omega (arith, c.loop-i.invariant.within);
      above = omega (arith, c.loop-i-test.true);
      value = c.step-value.ensures
          ∙ ap (λ v. step c.args.span (cell c.args.a.now (i - 1)) (cell c.args.b.now (i - 1)) v) c.loop-i.invariant.value
          ∙ sym (swept_further c.args.span c.args.a.now c.args.b.now (length c.args.a.now) i (beyond c.args.span) (omega (
            arith,
            c.loop-i-test.true,
          )) c.loop-i.invariant.within);
    }

pub returns : goal.returns
returns c =
    let e : c.loop-i.i ≡ c.args.loop_start = omega (arith, c.loop-i-test.false, c.loop-i.invariant.above) in
    subst (λ m. c.loop-i.value ≡ swept_back c.args.span c.args.a.now c.args.b.now (length c.args.a.now - m) m (beyond c.args.span)) e c.loop-i.invariant.value
