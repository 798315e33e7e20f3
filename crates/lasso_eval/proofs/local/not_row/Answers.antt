use Rattle.std.proofs.Common.{◌≡◌, not, false, refl}
use Rattle.lasso_eval.specs.Rows.{cell}
use Rattle.lasso_eval.proofs.Pushing.{each_pushed, length_pushed}
use Rattle.lasso_eval.proofs.local.not_row.Goals as goal

pub loop-i-preserved : goal.loop-i-preserved
loop-i-preserved c =
    let xs = c.loop-i.cells.items in
    record {
      count = rw c.in_ok-push.ensures.items (length_pushed xs (not (cell c.args.a.now c.loop-i.i)) c.loop-i.i c.loop-i.invariant.count);
      each = rw c.in_ok-push.ensures.items (each_pushed false xs (not (cell c.args.a.now c.loop-i.i)) c.loop-i.i (λ k v. v ≡ not (cell c.args.a.now k))
          c.loop-i.invariant.count c.loop-i.invariant.each refl);
    }
