use Rattle.std.proofs.Common.{◌≡◌, ◌≢◌, suc, ◌+◌, ◌-◌, length, false, IsTrue, ◌↔◌, inl, inr, sym, ◌∙◌, ap, set, subst, arith}
use Rattle.std.proofs.lemmas.Bool.{cases_lt}
use Rattle.std.proofs.lemmas.List.{get_or-set_other, length-set}
use Rattle.std.proofs.lemmas.Grind.{get_or-set_at}
use Rattle.ltl_syntax.specs.Shape.{Future, Between}
use Rattle.ltl_word.specs.Claims.{Claim, Always', IsSomewhere}
use Rattle.lasso_eval.specs.Rows.{cell}
use Rattle.lasso_eval.specs.Windows.{same, shows, IsNearest}
use Rattle.lasso_eval.proofs.Windowing.{nearest_step, nearest_tells, same_twice}
use Rattle.lasso_eval.proofs.window.later_row.Goals as goal

pub loop-i-preserved : goal.loop-i-preserved
loop-i-preserved c =
    let i = c.loop-i.i in
    let n = length c.args.a.now in
    let S : Claim = λ j. IsTrue (shows c.args.sought c.args.a.now c.args.loop_start j) in
    let at = i - 1 in
    let place = at + c.args.first in
    let positive = c.loop-i-test.true in
    let e : i + c.args.first ≡ suc place = omega (arith, positive) in
    let tells : IsTrue c.shows_at.result ↔ S place = subst (λ v. IsTrue v ↔ S place) (sym c.shows_at.ensures) (λ t. t, λ t. t) in
    let near : IsNearest S place c.nearer-nearest.result =
    rw c.nearer-nearest.ensures
    (nearest_step S place c.shows_at.result c.loop-i.nearest tells (subst (λ k. IsNearest S k c.loop-i.nearest) e c.loop-i.invariant.near)) in
    let found : IsTrue c.is_at_most.result ↔ IsSomewhere Always' Future (Between c.args.first c.args.last) S at =
    let w = nearest_tells S c.args.first c.args.last at c.nearer-nearest.result near in
    (λ t. w.0 (c.is_at_most.ensures.0 t), λ u. c.is_at_most.ensures.1 (w.1 u)) in
    let value : same c.args.sought c.agree.result ≡ c.is_at_most.result =
    ap (λ v. same c.args.sought v) c.agree.ensures ∙ same_twice c.args.sought c.is_at_most.result in
    let here : IsTrue (same c.args.sought c.agree.result) ↔ IsSomewhere Always' Future (Between c.args.first c.args.last) S at =
    subst (λ v. IsTrue v ↔ IsSomewhere Always' Future (Between c.args.first c.args.last) S at) (sym value) found in
    record {
      within = omega (arith, c.loop-i.invariant.within);
      count = length-set c.loop-i.cells.items at c.agree.result ∙ c.loop-i.invariant.count;
      near = near;
      each = λ k low high. elim (cases_lt k i) [
        | inl before ↦
            let same_place : at ≡ k = omega (arith, low, before) in
            let read : cell (set c.loop-i.cells.items at c.agree.result) k ≡ c.agree.result = get_or-set_at c.loop-i.cells.items at k c.agree.result false
            (sym same_place) (omega (arith, positive, c.loop-i.invariant.within, c.loop-i.invariant.count)) in
            subst (λ v. IsTrue (same c.args.sought v) ↔ IsSomewhere Always' Future (Between c.args.first c.args.last) S k) (sym read)
            (subst (λ m. IsTrue (same c.args.sought c.agree.result) ↔ IsSomewhere Always' Future (Between c.args.first c.args.last) S m) same_place here)
        | inr after ↦
            let other : k ≢ at = omega (arith, positive, after) in
            subst (λ v. IsTrue (same c.args.sought v) ↔ IsSomewhere Always' Future (Between c.args.first c.args.last) S k)
            (sym (get_or-set_other c.loop-i.cells.items at k c.agree.result false other))
            (c.loop-i.invariant.each k after high)
      ];
    }
