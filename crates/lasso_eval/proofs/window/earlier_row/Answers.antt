use Rattle.std.proofs.Common.{◌≡◌, ◌+◌, ◌-◌, false, Some, if◌then◌else◌, IsTrue, ◌↔◌, sym, ◌∙◌, ap, subst}
use Rattle.ltl_syntax.specs.Shape.{Past, Between}
use Rattle.ltl_word.specs.Claims.{Claim, Always', IsSomewhere}
use Rattle.lasso_eval.specs.Rows.{cell}
use Rattle.lasso_eval.specs.Windows.{same, IsLatest, IsAtLeast}
use Rattle.lasso_eval.proofs.Pushing.{each_pushed, length_pushed}
use Rattle.lasso_eval.proofs.Windowing.{latest_moved, latest_tells, same_twice}
use Rattle.lasso_eval.proofs.window.earlier_row.Goals as goal

pub loop-i-preserved : goal.loop-i-preserved
loop-i-preserved c =
    let i = c.loop-i.i in
    let xs = c.loop-i.cells.items in
    let S : Claim = λ j. IsTrue (same c.args.sought (cell c.args.a.now j)) in
    let latest : IsLatest S (i + 1 - c.args.first) c.nearer-latest.result =
    rw c.nearer-latest.ensures
    (subst (λ p. IsLatest S (i + 1 - c.args.first) (if c.shows_before-shown.result then Some p else c.loop-i.latest)) (sym c.saturating_sub.ensures)
    (latest_moved S c.args.first i c.shows_before-shown.result c.loop-i.latest c.shows_before-shown.ensures c.loop-i.invariant.latest)) in
    let found : IsTrue c.is_at_least-found.result ↔ IsSomewhere Always' Past (Between c.args.first c.args.last) S i =
    let w = subst (λ m. IsAtLeast c.nearer-latest.result m ↔ IsSomewhere Always' Past (Between c.args.first c.args.last) S i)
    (sym c.saturating_sub-in-loop-i.ensures)
    (latest_tells S c.args.first c.args.last i c.nearer-latest.result latest) in
    (λ t. w.0 (c.is_at_least-found.ensures.0 t), λ u. c.is_at_least-found.ensures.1 (w.1 u)) in
    let value : same c.args.sought c.agree.result ≡ c.is_at_least-found.result =
    ap (λ v. same c.args.sought v) c.agree.ensures ∙ same_twice c.args.sought c.is_at_least-found.result in
    let here : IsTrue (same c.args.sought c.agree.result) ↔ IsSomewhere Always' Past (Between c.args.first c.args.last) S i =
    subst (λ v. IsTrue v ↔ IsSomewhere Always' Past (Between c.args.first c.args.last) S i) (sym value) found in
    record {
      count = rw c.in_ok-push.ensures.items (length_pushed xs c.agree.result i c.loop-i.invariant.count);
      latest = latest;
      each = rw c.in_ok-push.ensures.items (each_pushed false xs c.agree.result i
          (λ k v. IsTrue (same c.args.sought v) ↔ IsSomewhere Always' Past (Between c.args.first c.args.last) S k)
          c.loop-i.invariant.count c.loop-i.invariant.each here);
    }
