use Rattle.std.proofs.Common.{◌≡◌, ◌≢◌, ◌-◌, length, false, inl, inr, ap, sym, subst, ◌∙◌, arith}
use Rattle.std.proofs.lemmas.Bool.{cases_lt}
use Rattle.std.proofs.lemmas.List.{get_or-set_other, length-set}
use Rattle.std.proofs.lemmas.Grind.{get_or-set_at, common_steps}
use Rattle.lasso_eval.specs.Rows.{cell}
use Rattle.lasso_eval.specs.Spans.{beyond, step, swept_back}
use Rattle.lasso_eval.proofs.Sweeping.{swept_further, swept_nowhere}
use Rattle.lasso_eval.proofs.span.future_row.Goals as goal

pub loop-i-init : goal.loop-i-init
loop-i-init c = record {
  within = omega arith;
  count = grind (arith, common_steps);
  value = c.once_around-value.ensures ∙ sym (swept_nowhere c.args.span c.args.a.now c.args.b.now (length c.args.a.now) _);
  each = λ k low high. absurd (omega arith);
}

pub loop-i-preserved : goal.loop-i-preserved
loop-i-preserved c =
    let i = c.loop-i.i in
    let n = length c.args.a.now in
    let span = c.args.span in
    let around = swept_back span c.args.a.now c.args.b.now (n - c.args.loop_start) c.args.loop_start (beyond span) in
    let positive = c.loop-i-test.true in
    let value : c.step-value.result ≡ swept_back span c.args.a.now c.args.b.now (n - (i - 1)) (i - 1) around =
    c.step-value.ensures
    ∙ ap (λ v. step span (cell c.args.a.now (i - 1)) (cell c.args.b.now (i - 1)) v) c.loop-i.invariant.value
    ∙ sym (swept_further span c.args.a.now c.args.b.now n i around positive c.loop-i.invariant.within) in
    record {
      within = omega (arith, c.loop-i.invariant.within);
      count = length-set c.loop-i.cells.items (i - 1) c.step-value.result ∙ c.loop-i.invariant.count;
      value = value;
      each = λ k low high. elim (cases_lt k i) [
        | inl before ↦
            let e : k ≡ i - 1 = omega arith in
            get_or-set_at c.loop-i.cells.items (i - 1) k c.step-value.result false e
            (omega (arith, positive, c.loop-i.invariant.within, c.loop-i.invariant.count))
            ∙ subst (λ m. c.step-value.result ≡ swept_back span c.args.a.now c.args.b.now (n - m) m around) (sym e) value
        | inr after ↦
            let other : k ≢ i - 1 = omega (arith, positive, after) in
            get_or-set_other c.loop-i.cells.items (i - 1) k c.step-value.result false other ∙ c.loop-i.invariant.each k after high
      ];
    }

pub returns-clause-each : goal.returns-clause-each
returns-clause-each c = rw c.new.ensures (λ i h. c.loop-i.invariant.each i (omega (arith, c.loop-i-test.false)) h)
