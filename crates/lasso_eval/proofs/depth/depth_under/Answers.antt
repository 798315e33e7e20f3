use Rattle.lasso_eval.proofs.Pushing.{length_pushed}
use Rattle.lasso_eval.proofs.Depths.{depths_pushed}
use Rattle.lasso_eval.proofs.depth.depth_under.Goals as goal

pub loop-number-preserved : goal.loop-number-preserved
loop-number-preserved c =
    let xs = c.loop-number.depths.items in
    let n = c.loop-number.number in
    let v = c.depth_of-depth.result in
    record {
      count = rw c.in_ok-push.ensures.items (length_pushed xs v n c.loop-number.invariant.count);
      known = rw c.in_ok-push.ensures.items (depths_pushed c.args.table.now xs v n c.loop-number.invariant.count c.loop-number.invariant.known
          c.depth_of-depth.ensures.depth c.depth_of-depth.ensures.small);
    }
