use Rattle.std.proofs.Common.{All, sym, ◌∙◌, subst, arith}
use Rattle.cdcl_trail.specs.Trail.{IsDecision}
use Rattle.cdcl_analyze.specs.Marks.{IsMarked}
use Rattle.cdcl_analyze.specs.Reason.{read_literals}
use Rattle.cdcl_analyze.proofs.Steps.{still_waiting, like_ended, like_keep, like_resolve, like_decided}
use Rattle.cdcl_analyze.proofs.analyze.walk.Goals as goal

pub down-preserved-in-Some-reason : goal.down-preserved-in-Some-reason
down-preserved-in-Some-reason c =
    let graph = c.args.graph.now in
    let k = c.in-Some.place in
    let next = c.in-Some.ensures.next in
    let fits = c.down.invariant.low in
    let inside = c.requires.can_walk.within in
    let old = c.down.marks in
    let popped = c.pop.new.self in
    let cited = c.in_ok-cite-in-Some-reason.ensures in
    let marked = c.in_ok-mark-in-Some-reason.ensures in
    record {
      walked = λ t like start. like_resolve graph t c.args.from c.down.end old popped like fits inside c.down.invariant.waiting k c.entry-entry.result
          c.pop.ensures.marks next c.entry-entry.ensures _ _ _ (c.down.invariant.walked t like start)
          c.invariant.ensures (IsMarked c.mark.new.marks) c.in-Some-reason.hint (read_literals c.reason-clause.result)
          _ _ _ c.in-Some-reason.is c.reason-clause.ensures.same marked.kept marked.all cited.clause cited.hints cited.places;
      decided = λ t like start. subst (All (IsDecision t)) (sym cited.places) (c.down.invariant.decided t like start);
      size = c.mark.ensures.size ∙ c.pop.ensures.room ∙ c.down.invariant.size;
      waiting =
          marked.waiting k (still_waiting graph.trail c.down.end k old popped c.down.invariant.waiting c.pop.ensures.marks next (omega (arith, fits, inside)));
      low = omega (arith, next.low, fits);
    }

pub down-preserved : goal.down-preserved
down-preserved c =
    let graph = c.args.graph.now in
    let k = c.in-Some.place in
    let next = c.in-Some.ensures.next in
    let fits = c.down.invariant.low in
    let inside = c.requires.can_walk.within in
    let old = c.down.marks in
    let popped = c.pop.new.self in
    let kept = c.in_ok-keep-in-None.ensures in
    record {
      walked = λ t like start. like_keep graph t c.args.from c.down.end old popped like fits inside c.down.invariant.waiting k c.entry-entry.result
          c.pop.ensures.marks next c.entry-entry.ensures _ _ _ (c.down.invariant.walked t like start)
          c.opposite.result _ _ _ c.opposite.ensures kept.clause kept.hints kept.places;
      decided = λ t like start. like_decided graph t c.args.from c.down.end old popped like fits inside c.down.invariant.waiting k c.entry-entry.result
          c.pop.ensures.marks next c.entry-entry.ensures _ _ c.in-None.is kept.places (c.down.invariant.decided t like start);
      size = c.pop.ensures.room ∙ c.down.invariant.size;
      waiting = still_waiting graph.trail c.down.end k old popped c.down.invariant.waiting c.pop.ensures.marks next (omega (arith, fits, inside));
      low = omega (arith, next.low, fits);
    }

pub returns-clause-walked : goal.returns-clause-walked
returns-clause-walked c = λ t like start.
    like_ended c.args.graph.now t c.args.from c.down.end c.down.marks c.pop.new.self like c.down.invariant.low c.requires.can_walk.within
    c.down.invariant.waiting c.in_default.ensures.next _ _ _ (c.down.invariant.walked t like start)
