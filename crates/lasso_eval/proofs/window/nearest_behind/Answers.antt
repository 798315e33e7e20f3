use Rattle.std.proofs.Common.{◌≡◌, suc, ◌+◌, ◌-◌, ◌<◌, length, IsTrue, ◌↔◌, sym, subst, arith}
use Rattle.ltl_word.specs.Claims.{Claim}
use Rattle.lasso_eval.specs.Windows.{shows, IsNearest}
use Rattle.lasso_eval.proofs.Windowing.{nearest_step, nearest_wide, shows_sooner}
use Rattle.lasso_eval.proofs.window.nearest_behind.Goals as goal

pub loop-i-preserved : goal.loop-i-preserved
loop-i-preserved c =
    let i = c.loop-i.i in
    let n = length c.args.a.now in
    let high = n + c.args.first + (n - c.args.loop_start) in
    let S : Claim = λ j. (j < high) × IsTrue (shows c.args.sought c.args.a.now c.args.loop_start j) in
    let place = i - 1 + c.args.first in
    let e : i + c.args.first ≡ suc place = omega (arith, c.loop-i-test.true) in
    let tells : IsTrue c.shows_at.result ↔ S place =
    subst (λ v. IsTrue v ↔ S place) (sym c.shows_at.ensures) (λ t. (omega (arith, c.loop-i.invariant.within, c.loop-i-test.true), t), λ w. w.1) in
    record {
      within = omega (arith, c.loop-i.invariant.within);
      behind = omega (arith, c.loop-i-test.true);
      near = rw c.nearer-nearest.ensures
          (nearest_step S place c.shows_at.result c.loop-i.nearest tells (subst (λ k. IsNearest S k c.loop-i.nearest) e c.loop-i.invariant.near));
    }

pub returns : goal.returns
returns c =
    let n = length c.args.a.now in
    let S : Claim = λ j. IsTrue (shows c.args.sought c.args.a.now c.args.loop_start j) in
    let low = n + c.args.first in
    let high = low + (n - c.args.loop_start) in
    let e : c.loop-i.i + c.args.first ≡ low = omega (arith, c.loop-i-test.false, c.loop-i.invariant.behind) in
    nearest_wide S low high c.loop-i.nearest (shows_sooner c.args.sought c.args.a.now c.args.loop_start low c.requires.within (omega arith))
    (subst (λ k. IsNearest (λ j. (j < high) × S j) k c.loop-i.nearest) e c.loop-i.invariant.near)
