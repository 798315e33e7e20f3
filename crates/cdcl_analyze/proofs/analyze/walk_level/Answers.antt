use Rattle.std.proofs.Common.{length, ◌∙◌, arith}
use Rattle.cdcl_analyze.specs.Marks.{IsMarked}
use Rattle.cdcl_analyze.specs.Reason.{read_literals}
use Rattle.cdcl_analyze.proofs.Steps.{found_again, like_itself, still_waiting, like_ended, like_keep, like_resolve}
use Rattle.cdcl_analyze.proofs.analyze.walk_level.Goals as goal

pub down-preserved : goal.down-preserved
down-preserved c =
    let graph = c.args.graph.now in
    let all = length graph.trail in
    let k = c.in-Some.place in
    let next = c.in-Some.ensures.next in
    let fits = c.down.invariant.low in
    let old = c.down.marks in
    let popped = c.pop.new.self in
    let like = like_itself graph c.invariant.ensures all (omega arith) in
    let cited = c.in_ok-cite-in-Some-reason.ensures in
    let marked = c.in_ok-mark-in-Some-reason.ensures in
    record {
      walked = λ start. like_resolve graph graph.trail all c.down.end old popped like fits (omega arith)
          c.down.invariant.waiting k c.entry-entry.result c.pop.ensures.marks next c.entry-entry.ensures _ _ _ (c.down.invariant.walked start)
          c.invariant.ensures (IsMarked c.mark.new.marks) c.in-Some-reason.hint (read_literals c.reason-clause.result)
          _ _ _ c.in-Some-reason.is c.reason-clause.ensures.same marked.kept marked.all cited.clause cited.hints cited.places;
      size = c.mark.ensures.size ∙ c.pop.ensures.room ∙ c.down.invariant.size;
      waiting = marked.waiting k (still_waiting graph.trail c.down.end k old popped c.down.invariant.waiting c.pop.ensures.marks next fits);
      found = found_again _ _ _ (found_again _ _ _ c.down.invariant.found c.pop.ensures.found) c.mark.ensures.found;
      low = omega (arith, next.low, fits);
    }

pub returns-then-open-le1-clause-walked : goal.returns-then-open-le1-clause-walked
returns-then-open-le1-clause-walked c = λ start.
    let graph = c.args.graph.now in
    let kept = c.in_ok-keep-in-Some-reason.ensures in
    like_keep graph graph.trail (length graph.trail)
    c.down.end c.down.marks c.pop.new.self (like_itself graph c.invariant.ensures (length graph.trail) (omega arith)) c.down.invariant.low (omega arith)
    c.down.invariant.waiting c.in-Some.place c.entry-entry.result c.pop.ensures.marks c.in-Some.ensures.next c.entry-entry.ensures _ _ _
    (c.down.invariant.walked start) c.opposite.result _ _ _ c.opposite.ensures kept.clause kept.hints kept.places

pub returns-in-None-clause-walked : goal.returns-in-None-clause-walked
returns-in-None-clause-walked c = λ start.
    let graph = c.args.graph.now in
    let kept = c.in_ok-keep-in-None.ensures in
    like_keep graph graph.trail (length graph.trail)
    c.down.end c.down.marks c.pop.new.self (like_itself graph c.invariant.ensures (length graph.trail) (omega arith)) c.down.invariant.low (omega arith)
    c.down.invariant.waiting c.in-Some.place c.entry-entry.result c.pop.ensures.marks c.in-Some.ensures.next c.entry-entry.ensures _ _ _
    (c.down.invariant.walked start) c.opposite-in-None.result _ _ _ c.opposite-in-None.ensures kept.clause kept.hints kept.places

pub returns-clause-walked : goal.returns-clause-walked
returns-clause-walked c = λ start.
    let graph = c.args.graph.now in
    like_ended graph graph.trail (length graph.trail)
    c.down.end c.down.marks c.pop.new.self (like_itself graph c.invariant.ensures (length graph.trail) (omega arith)) c.down.invariant.low (omega arith)
    c.down.invariant.waiting c.in_default.ensures.next _ _ _ (c.down.invariant.walked start)

-- what waited below the place waits on
pub returns-then-open-le1-clause-can_walk : goal.returns-then-open-le1-clause-can_walk
returns-then-open-le1-clause-can_walk c = record {
  within = omega (arith, c.in-Some.ensures.next.low, c.down.invariant.low);
  size = omega (arith, c.requires.can_walk.size, c.pop.ensures.room, c.down.invariant.size);
  waiting = still_waiting c.args.graph.now.trail c.down.end c.in-Some.place c.down.marks c.pop.new.self c.down.invariant.waiting c.pop.ensures.marks
      c.in-Some.ensures.next c.down.invariant.low;
}

pub returns-in-None-clause-can_walk : goal.returns-in-None-clause-can_walk
returns-in-None-clause-can_walk c = record {
  within = omega (arith, c.in-Some.ensures.next.low, c.down.invariant.low);
  size = omega (arith, c.requires.can_walk.size, c.pop.ensures.room, c.down.invariant.size);
  waiting = still_waiting c.args.graph.now.trail c.down.end c.in-Some.place c.down.marks c.pop.new.self c.down.invariant.waiting c.pop.ensures.marks
      c.in-Some.ensures.next c.down.invariant.low;
}

-- nothing stands below the first place
pub returns-clause-can_walk : goal.returns-clause-can_walk
returns-clause-can_walk c = record {
  within = omega arith;
  size = omega (arith, c.requires.can_walk.size, c.pop.ensures.room, c.down.invariant.size);
  waiting = λ j low inside is. absurd (omega (arith, low));
}
