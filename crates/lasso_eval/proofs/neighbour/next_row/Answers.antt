use Rattle.std.proofs.Common.{◌≡◌, false}
use Rattle.lasso_eval.specs.Neighbours.{later}
use Rattle.lasso_eval.proofs.Pushing.{each_pushed, length_pushed}
use Rattle.lasso_eval.proofs.neighbour.next_row.Goals as goal

pub loop-i-preserved : goal.loop-i-preserved
loop-i-preserved c =
    let xs = c.loop-i.cells.items in
    record {
      count = rw c.in_ok-push.ensures.items (length_pushed xs c.after.result c.loop-i.i c.loop-i.invariant.count);
      each = rw c.in_ok-push.ensures.items (each_pushed false xs c.after.result c.loop-i.i (λ k v. v ≡ later c.args.a.now c.args.loop_start c.args.beyond k)
          c.loop-i.invariant.count c.loop-i.invariant.each c.after.ensures);
    }
