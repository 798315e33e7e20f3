use Rattle.std.proofs.Common.{◌≡◌, [], ◌∷◌, All, Contains, length, sym, ap, ◌∙◌, subst, arith}
use Rattle.std.proofs.lemmas.List.{get_or_default}
use Rattle.std.proofs.lemmas.List.Elements.{All-nil, All-cons}
use Rattle.cnf_base.specs.Literal.{opposite}
use Rattle.cnf_base.proofs.SameLiteral.{opposite_opposite}
use Rattle.cdcl_trail.specs.Trail.{literals_of, blank_entry, literal_at, IsDecision}
use Rattle.cdcl_analyze.specs.Analysis.{IsWalk, refuted_at}
use Rattle.cdcl_trail.specs.declared.assigned.TrailEntry.{TrailEntry}
use Rattle.cdcl_analyze.specs.Marks.{IsMarked}
use Rattle.cdcl_analyze.specs.Reason.{read_literals}
use Rattle.cdcl_trail.proofs.Standing.{reason_at}
use Rattle.cdcl_analyze.proofs.Outcomes.{some_same}
use Rattle.cdcl_analyze.proofs.Walk.{walk_start, walk_keep, walk_end}
use Rattle.cdcl_analyze.proofs.Refuted.{refuted_from_one, refuted_like, refuted_false, refuted_last, refuted_length}
use Rattle.cdcl_analyze.proofs.analyze.explain_forced.Goals as goal

pub returns-clause-learnt : goal.returns-clause-learnt
returns-clause-learnt c =
    let log = c.args.graph.now.log in
    let trail = c.args.graph.now.trail in
    let values = c.args.graph.now.values in
    let letters = length values in
    let p = c.args.place in
    let t = refuted_at trail p in
    let clause = read_literals c.clause-clause.result in
    let is = c.clause-clause.ensures.is in
    let reason = reason_at log.inputs log.lines trail p c.args.hint c.invariant.ensures.is_trail c.requires.place c.requires.forced in
    let like = refuted_like c.args.graph.now c.invariant.ensures p c.requires.place in
    let all_false = subst (All (λ l. Contains (literals_of t) (opposite l))) (some_same reason.is is)
    (refuted_false c.args.graph.now c.invariant.ensures p c.requires.place c.args.hint reason) in
    let start = walk_start log.inputs log.lines t letters (IsMarked c.mark.new.marks)
    c.args.hint clause is c.clause-clause.ensures.known c.invariant.ensures.few all_false c.in_ok-mark.ensures.all in
    let len = refuted_length c.args.graph.now c.invariant.ensures p c.requires.place in
    let kept = walk_keep log.inputs log.lines t p _ _ _ _
    (subst (λ n. IsWalk log.inputs log.lines t n (IsMarked c.mark.new.marks) [] (c.args.hint ∷ []) []) len start) in
    let literal : c.entry.result.literal ≡ opposite (literal_at t p) =
    ap (λ (e : TrailEntry). e.literal) (c.entry.ensures ∙ get_or_default trail p _ blank_entry c.requires.place) ∙ sym (opposite_opposite (literal_at trail p))
    ∙ ap (λ (e : TrailEntry). opposite e.literal) (sym (refuted_last c.args.graph.now c.invariant.ensures p c.requires.place)) in
    let begun : IsWalk log.inputs log.lines t p (IsMarked c.mark.new.marks)
    c.cite.new.learnt.clause.items c.cite.new.learnt.hints.items c.cite.new.learnt.places.items =
    rw (
      c.in_ok-cite.ensures.clause,
      c.in_ok-cite.ensures.hints,
      c.in_ok-cite.ensures.places,
      c.in_ok-keep.ensures.clause,
      c.in_ok-keep.ensures.hints,
      c.in_ok-keep.ensures.places,
      c.in_ok-learnt.ensures.clause,
      c.in_ok-learnt.ensures.hints,
      c.in_ok-learnt.ensures.places,
      literal,
    ) kept in
    let walked = c.in_ok-walk.ensures.walked t like begun in
    record {
      step = rw c.reverse.ensures.items (walk_end like.values log.inputs log.lines t _ _ _ _ like.told like.few
          (refuted_from_one c.args.graph.now c.invariant.ensures p c.requires.place c.requires.from_one) walked);
      clause_is = walked.clause_is;
      inside = walked.inside;
      falling = walked.falling;
    }

pub returns-clause-decided : goal.returns-clause-decided
returns-clause-decided c =
    let log = c.args.graph.now.log in
    let trail = c.args.graph.now.trail in
    let values = c.args.graph.now.values in
    let p = c.args.place in
    let t = refuted_at trail p in
    let like = refuted_like c.args.graph.now c.invariant.ensures p c.requires.place in
    let len = refuted_length c.args.graph.now c.invariant.ensures p c.requires.place in
    let last = refuted_last c.args.graph.now c.invariant.ensures p c.requires.place in
    c.in_ok-walk.ensures.decided t like
    (rw (c.in_ok-cite.ensures.places, c.in_ok-keep.ensures.places, c.in_ok-learnt.ensures.places)
    (All-cons (IsDecision t) p [] (record { within = omega (arith, len); free = ap (λ (e : TrailEntry). e.reason) last }) (All-nil (IsDecision t))))

-- no letter was marked before the clause's letters were
pub walk-requires : goal.walk-requires
walk-requires c = record {
  can_walk = record {
    within = omega (arith, c.requires.place);
    size = omega (arith, c.requires.size, c.begin.ensures.room, c.mark.ensures.size);
    waiting = c.in_ok-mark.ensures.waiting c.args.place (λ j low inside is. absurd (c.begin.ensures.none _ is));
  };
}
