use Rattle.std.proofs.Common.{◌≡◌, ◌+◌, ◌*◌, sym, subst, arith}
use Rattle.batch_run.proofs.Grouped.{one_decided, one_longer}
use Rattle.batch_run.proofs.groups.decide_lane.Goals as goal

pub own-preserved : goal.own-preserved
own-preserved g c =
    let old = c.own.lane.outcomes.items in
    let new = c.push.new.self.items in
    let line = c.index.result.now in
    let added = c.in-Ok-push.ensures.items in
    let before = c.own.invariant in
    record {
      at = subst (λ n. c.own.index + c.args.workers ≡ c.args.worker + n * c.args.workers) (sym (one_longer old new c.in-Ok.outcome added))
          (omega (arith, before.at));
      own =
          one_decided c.args.kind c.args.asked c.args.lines.now.items c.args.worker c.args.workers c.own.index old new line c.in-Ok.outcome before.at before.own
          c.index.ensures (omega (arith, c.own-test.true, c.len.ensures)) c.in-Ok.ensures added;
    }
