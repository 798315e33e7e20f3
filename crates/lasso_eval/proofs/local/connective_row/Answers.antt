use Rattle.std.proofs.Common.{◌≡◌, false}
use Rattle.lasso_eval.specs.Rows.{cell}
use Rattle.lasso_eval.specs.Truth.{connected}
use Rattle.lasso_eval.proofs.Pushing.{each_pushed, length_pushed}
use Rattle.lasso_eval.proofs.local.connective_row.Goals as goal

pub loop-i-preserved : goal.loop-i-preserved
loop-i-preserved c =
    let xs = c.loop-i.cells.items in
    record {
      count = rw c.in_ok-push.ensures.items (length_pushed xs c.value.result c.loop-i.i c.loop-i.invariant.count);
      each = rw c.in_ok-push.ensures.items (each_pushed false xs c.value.result c.loop-i.i
          (λ k v. v ≡ connected c.args.connective (cell c.args.a.now k) (cell c.args.b.now k))
          c.loop-i.invariant.count c.loop-i.invariant.each c.value.ensures);
    }
