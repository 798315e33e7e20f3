use Rattle.std.proofs.Common.{All, Contains, length, subst, arith}
use Rattle.std.proofs.lemmas.List.Elements.{All-nil}
use Rattle.cnf_base.specs.Literal.{opposite}
use Rattle.cdcl_trail.specs.Trail.{literals_of, IsDecision}
use Rattle.cdcl_analyze.specs.Analysis.{IsWalk}
use Rattle.cdcl_analyze.specs.Marks.{IsMarked}
use Rattle.cdcl_analyze.specs.Reason.{read_literals}
use Rattle.cdcl_analyze.proofs.Steps.{found_unasked}
use Rattle.cdcl_analyze.proofs.Outcomes.{some_same}
use Rattle.cdcl_analyze.proofs.Walk.{walk_start, walk_end}
use Rattle.cdcl_analyze.proofs.analyze.explain.Goals as goal

pub returns-clause-learnt : goal.returns-clause-learnt
returns-clause-learnt c =
    let log = c.args.graph.now.log in
    let trail = c.args.graph.now.trail in
    let values = c.args.graph.now.values in
    let letters = length values in
    let clause = read_literals c.clause-clause.result in
    let is = c.clause-clause.ensures.is in
    let given = c.requires.conflict in
    let start = walk_start log.inputs log.lines trail letters (IsMarked c.mark.new.marks)
    c.args.conflict clause is c.clause-clause.ensures.known c.invariant.ensures.few
    (subst (All (λ l. Contains (literals_of trail) (opposite l))) (some_same given.is is) given.all_false) c.in_ok-mark.ensures.all in
    let begun : IsWalk log.inputs log.lines trail (length trail) (IsMarked c.mark.new.marks)
    c.cite.new.learnt.clause.items c.cite.new.learnt.hints.items c.cite.new.learnt.places.items =
    rw (
      c.in_ok-cite.ensures.clause,
      c.in_ok-cite.ensures.hints,
      c.in_ok-cite.ensures.places,
      c.in_ok-learnt.ensures.clause,
      c.in_ok-learnt.ensures.hints,
      c.in_ok-learnt.ensures.places,
    ) start in
    let walked = c.in_ok-resolve.ensures.walked begun in
    record {
      step = rw c.reverse.ensures.items
          (walk_end values log.inputs log.lines trail _ _ _ _ c.invariant.ensures.told c.invariant.ensures.few c.requires.from_one walked);
      clause_is = walked.clause_is;
      inside = walked.inside;
      falling = walked.falling;
    }

pub returns-clause-decided : goal.returns-clause-decided
returns-clause-decided c = λ is_cut.
    c.in_ok-resolve.ensures.decided is_cut (rw (c.in_ok-cite.ensures.places, c.in_ok-learnt.ensures.places) (All-nil (IsDecision c.args.graph.now.trail)))

-- no letter was marked before the clause's letters were, and nothing is known of any
pub resolve-requires-clause-can_walk : goal.resolve-requires-clause-can_walk
resolve-requires-clause-can_walk c = record {
  within = omega arith;
  size = omega (arith, c.requires.size, c.begin.ensures.room, c.mark.ensures.size);
  waiting = c.in_ok-mark.ensures.waiting (length c.args.graph.now.trail) (λ j low inside is. absurd (c.begin.ensures.none _ is));
}

pub resolve-requires-clause-fresh : goal.resolve-requires-clause-fresh
resolve-requires-clause-fresh c = found_unasked c.begin.new.self c.mark.new.marks c.mark.ensures.found
    (record { unasked = c.begin.ensures.unasked; none_follows = c.begin.ensures.none_follows })
