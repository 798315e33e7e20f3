use Rattle.std.proofs.Common.{◌≡◌, false}
use Rattle.lasso_eval.specs.Neighbours.{earlier}
use Rattle.lasso_eval.proofs.Pushing.{each_pushed, length_pushed}
use Rattle.lasso_eval.proofs.neighbour.yesterday_row.Goals as goal

pub loop-i-preserved : goal.loop-i-preserved
loop-i-preserved c =
    let xs = c.loop-i.cells.items in
    record {
      count = rw c.in_ok-push.ensures.items (length_pushed xs c.ahead.result c.loop-i.i c.loop-i.invariant.count);
      each = rw c.in_ok-push.ensures.items (each_pushed false xs c.ahead.result c.loop-i.i (λ k v. v ≡ earlier c.args.a.now c.args.before k)
          c.loop-i.invariant.count c.loop-i.invariant.each c.ahead.ensures);
    }
