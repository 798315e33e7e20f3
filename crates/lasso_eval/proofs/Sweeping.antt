-- A sweep one place further.
use Rattle.std.proofs.Common.{◌≡◌, ℕ, suc, ◌-◌, ◌<◌, ◌≤◌, Bool, List, ap, ◌∙◌, arith}
use Rattle.lasso_eval.specs.declared.span.Span.{Span}
use Rattle.lasso_eval.specs.Rows.{cell}
use Rattle.lasso_eval.specs.Spans.{step, swept_back}

pub swept_further : (span : Span) (a b : List Bool) (n i : ℕ) (value : Bool) → 0 < i → i ≤ n
    → swept_back span a b (n - (i - 1)) (i - 1) value ≡ step span (cell a (i - 1)) (cell b (i - 1)) (swept_back span a b (n - i) i value)
swept_further span a b n i value positive within =
    let more : n - (i - 1) ≡ suc (n - i) = omega arith in
    let next : suc (i - 1) ≡ i = omega arith in
    ap (λ count. swept_back span a b count (i - 1) value) more
    ∙ ap (λ at. step span (cell a (i - 1)) (cell b (i - 1)) (swept_back span a b (n - i) at value)) next

pub swept_nowhere : (span : Span) (a b : List Bool) (n : ℕ) (value : Bool) → swept_back span a b (n - n) n value ≡ value
swept_nowhere span a b n value = let none : n - n ≡ 0 = omega arith in ap (λ count. swept_back span a b count n value) none
