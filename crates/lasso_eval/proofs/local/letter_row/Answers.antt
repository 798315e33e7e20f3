use Rattle.std.proofs.Common.{◌↔◌, IsTrue, Contains, false}
use Rattle.ltl_word.specs.Trace.{state_at}
use Rattle.lasso_eval.proofs.Pushing.{each_pushed, length_pushed}
use Rattle.lasso_eval.proofs.local.letter_row.Goals as goal

pub loop-i-preserved : goal.loop-i-preserved
loop-i-preserved c =
    let xs = c.loop-i.cells.items in
    record {
      count = rw c.in_ok-push.ensures.items (length_pushed xs c.has_at.result c.loop-i.i c.loop-i.invariant.count);
      each = rw c.in_ok-push.ensures.items (each_pushed false xs c.has_at.result c.loop-i.i
          (λ k v. IsTrue v ↔ Contains (state_at c.args.trace.now k) c.args.name.now) c.loop-i.invariant.count c.loop-i.invariant.each c.has_at.ensures);
    }
