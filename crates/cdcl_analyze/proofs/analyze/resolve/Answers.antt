use Rattle.std.proofs.Common.{length, sym, subst, arith}
use Rattle.cdcl_analyze.specs.Analysis.{CanWalk, IsLike, IsWalk}
use Rattle.cdcl_analyze.specs.Marks.{IsMarked}
use Rattle.cdcl_analyze.proofs.Steps.{found_unasked, like_itself}
use Rattle.cdcl_analyze.proofs.analyze.resolve.Goals as goal

pub walk-requires : goal.walk-requires
walk-requires c = record { can_walk = subst (λ n. CanWalk c.args.graph.now n c.args.marks.now) (sym c.len.ensures) c.requires.can_walk }

pub returns-in-Decisions-clause-walked : goal.returns-in-Decisions-clause-walked
returns-in-Decisions-clause-walked c = λ start.
    let graph = c.args.graph.now in
    let like = like_itself graph c.invariant.ensures (length graph.trail) (omega arith) in
    c.in_ok-walk-in-Decisions.ensures.walked graph.trail (subst (IsLike graph graph.trail) (sym c.len.ensures) like)
    (subst (λ n. IsWalk graph.log.inputs graph.log.lines graph.trail n (IsMarked c.args.marks.now)
    c.args.learnt.now.clause.items c.args.learnt.now.hints.items c.args.learnt.now.places.items) (sym c.len.ensures) start)

pub returns-in-Decisions-clause-decided : goal.returns-in-Decisions-clause-decided
returns-in-Decisions-clause-decided c = λ is_cut start.
    let graph = c.args.graph.now in
    let like = like_itself graph c.invariant.ensures (length graph.trail) (omega arith) in
    c.in_ok-walk-in-Decisions.ensures.decided graph.trail (subst (IsLike graph graph.trail) (sym c.len.ensures) like) start

pub returns-in-FirstUnique-clause-walked : goal.returns-in-FirstUnique-clause-walked
returns-in-FirstUnique-clause-walked c = λ start. c.in_ok-minimize-in-FirstUnique.ensures.walked (c.in_ok-place-in-FirstUnique.ensures.walked start)

-- where nothing is known before the walk, nothing is known behind it
pub minimize-requires-clause-fresh : goal.minimize-requires-clause-fresh
minimize-requires-clause-fresh c = found_unasked c.args.marks.now c.walk_level.new.marks c.in_ok-place-in-FirstUnique.ensures.found c.requires.fresh
