use Rattle.std.proofs.Common.{◌≡◌, [], ◌∷◌, ◌++◌, ◌<◌, length, get_or, refl, sym, ap, ◌∙◌, subst, arith}
use Rattle.std.proofs.lemmas.List.{get_or_default}
use mathlib.Core.Bool.{false≢true}
use Rattle.cdcl_trail.specs.Trail.{blank_entry}
use Rattle.cdcl_trail.specs.declared.assigned.TrailEntry.{TrailEntry}
use Rattle.cdcl_analyze.specs.Marks.{MarksValue}
use Rattle.cdcl_analyze.proofs.Growth.{consequences_found}
use Rattle.cdcl_analyze.proofs.Resting.{rest_start, rest_ended, rest_marked, waiting_again, asked_follows, asked_kept}
use Rattle.cdcl_analyze.proofs.analyze.keep_rest.Goals as goal

pub down-init : goal.down-init
down-init c = record {
  rest = rest_start _ _ _ _ _ _ _ _ _ c.invariant.ensures.told c.requires.can_walk.within c.requires.fresh.unasked c.requires.fresh.none_follows;
  hints = refl;
  size = refl;
  waiting = c.requires.can_walk.waiting;
  low = c.requires.base;
  high = omega arith;
}

pub entry-entry-requires : goal.entry-entry-requires
entry-entry-requires c = omega (arith, c.in-Some.ensures.next.low, c.down.invariant.high, c.requires.can_walk.within)

pub mark-requires : goal.mark-requires
mark-requires c =
    let trail = c.args.graph.now.trail in
    let place = c.in-Some.place in
    let low : place < length trail = omega (arith, c.in-Some.ensures.next.low, c.down.invariant.high, c.requires.can_walk.within) in
    let entry : c.entry-entry.result ≡ get_or trail place blank_entry = c.entry-entry.ensures ∙ get_or_default trail place _ blank_entry low in
    let known = subst (λ (e : TrailEntry). e.literal.letter.0 < length c.args.graph.now.values) (sym entry)
    (c.invariant.ensures.told.known place blank_entry low) in
    omega (arith, known, c.requires.can_walk.size, c.down.invariant.size, c.pop.ensures.room)

pub returns-in_err-mark-clause-size : goal.returns-in_err-mark-clause-size
returns-in_err-mark-clause-size c = c.mark.ensures.room ∙ c.pop.ensures.room ∙ c.down.invariant.size

pub returns-then-place-base-clause-size : goal.returns-then-place-base-clause-size
returns-then-place-base-clause-size c = c.mark.ensures.room ∙ c.pop.ensures.room ∙ c.down.invariant.size

pub returns-then-place-base-clause-can_walk : goal.returns-then-place-base-clause-can_walk
returns-then-place-base-clause-can_walk c = record {
  within = omega (arith, c.requires.base, c.requires.can_walk.within);
  size = omega (arith, c.requires.can_walk.size, c.mark.ensures.room, c.pop.ensures.room, c.down.invariant.size);
  waiting = waiting_again _ _ _ _ _ _ _ _ _ c.invariant.ensures.told c.requires.can_walk.within _ _ c.down.end c.down.marks c.pop.new.self c.down.invariant.high
      c.down.invariant.waiting c.pop.ensures.marks c.pop.ensures.found c.down.invariant.rest
      c.in-Some.place c.entry-entry.result c.in-Some.ensures.next c.entry-entry.ensures c.mark.new.self c.if-place-base.true c.down.invariant.low
      c.in_ok-mark.ensures.only c.in_ok-mark.ensures.waits;
}

pub returns-then-place-base-clause-rest : goal.returns-then-place-base-clause-rest
returns-then-place-base-clause-rest c =
    rest_marked _ _ _ _ _ _ _ _ _ c.invariant.ensures.told c.requires.can_walk.within _ _ c.down.end c.down.marks c.pop.new.self c.down.invariant.high
    c.down.invariant.waiting c.pop.ensures.marks c.pop.ensures.found c.down.invariant.rest
    c.in-Some.place c.entry-entry.result c.in-Some.ensures.next c.entry-entry.ensures c.mark.new.self c.if-place-base.true c.down.invariant.low
    c.in_ok-mark.ensures.only c.in_ok-mark.ensures.found c.in_ok-mark.ensures.kept

pub returns-then-place-base-clause-hints : goal.returns-then-place-base-clause-hints
returns-then-place-base-clause-hints c = c.down.invariant.hints

pub follows-requires-clause-stands : goal.follows-requires-clause-stands
follows-requires-clause-stands c =
    let trail = c.args.graph.now.trail in
    let place = c.in-Some.place in
    let low : place < length trail = omega (arith, c.in-Some.ensures.next.low, c.down.invariant.high, c.requires.can_walk.within) in
    let entry : c.entry-entry.result ≡ get_or trail place blank_entry = c.entry-entry.ensures ∙ get_or_default trail place _ blank_entry low in
    (place, low, ap (λ (e : TrailEntry). e.literal.letter.0) (sym entry))

pub follows-requires-clause-can_ask : goal.follows-requires-clause-can_ask
follows-requires-clause-can_ask c =
    let log = c.args.graph.now.log in
    let trail = c.args.graph.now.trail in
    record {
      size = omega (arith, c.requires.can_walk.size, c.down.invariant.size, c.pop.ensures.room);
      within = omega (arith, c.requires.base, c.requires.can_walk.within);
      consequences = consequences_found log.inputs log.lines trail c.args.base c.down.marks c.pop.new.self c.down.invariant.rest.consequences
          c.pop.ensures.found (λ x h. (c.pop.ensures.marks x).1 h);
    }

pub returns-in_err-follows-clause-size : goal.returns-in_err-follows-clause-size
returns-in_err-follows-clause-size c = c.follows.ensures.size ∙ c.pop.ensures.room ∙ c.down.invariant.size

pub down-preserved-in_ok-keep : goal.down-preserved-in_ok-keep
down-preserved-in_ok-keep c =
    let trail = c.args.graph.now.trail in
    let kept = asked_kept _ _ _ _ _ _ _ _ _ c.invariant.ensures.told c.requires.can_walk.within _ _ c.down.end c.down.marks c.pop.new.self c.down.invariant.high
    c.down.invariant.waiting c.pop.ensures.marks c.pop.ensures.found c.down.invariant.rest
    c.in-Some.place c.entry-entry.result c.in-Some.ensures.next c.entry-entry.ensures c.follows.new.marks c.if-place-base.false c.in_ok-follows.ensures.grows
    c.deny.new.self c.keep.new.learnt.clause.items c.keep.new.learnt.places.items
    (omega (arith, c.requires.can_walk.size, c.down.invariant.size, c.pop.ensures.room, c.follows.ensures.size, c.invariant-then-not-branch.ensures))
    (λ h. false≢true (sym c.if-not-branch.true ∙ c.in_ok-follows.ensures.outcome.1 h)) c.deny.ensures
    (c.in_ok-keep.ensures.clause ∙ ap (λ l. c.down.learnt.clause.items ++ l ∷ []) c.opposite.ensures) c.in_ok-keep.ensures.places in
    record {
      rest = kept.0;
      hints = c.in_ok-keep.ensures.hints ∙ c.down.invariant.hints;
      size = ap (λ (m : MarksValue). length m.stamps) c.deny.ensures ∙ c.follows.ensures.size ∙ c.pop.ensures.room ∙ c.down.invariant.size;
      waiting = kept.1;
      low = c.if-place-base.false;
      high = omega (arith, c.in-Some.ensures.next.low, c.down.invariant.high);
    }

pub returns-in_err-keep-clause-size : goal.returns-in_err-keep-clause-size
returns-in_err-keep-clause-size c =
    ap (λ (m : MarksValue). length m.stamps) c.deny.ensures ∙ c.follows.ensures.size ∙ c.pop.ensures.room ∙ c.down.invariant.size

pub down-smaller : goal.down-smaller
down-smaller c = c.in-Some.ensures.next.low

pub down-preserved : goal.down-preserved
down-preserved c =
    let trail = c.args.graph.now.trail in
    let follows = asked_follows _ _ _ _ _ _ _ _ _ c.invariant.ensures.told c.requires.can_walk.within _ _ c.down.end c.down.marks c.pop.new.self
    c.down.invariant.high c.down.invariant.waiting c.pop.ensures.marks c.pop.ensures.found c.down.invariant.rest
    c.in-Some.place c.entry-entry.result c.in-Some.ensures.next c.entry-entry.ensures c.follows.new.marks c.if-place-base.false c.in_ok-follows.ensures.grows
    (c.in_ok-follows.ensures.outcome.0 c.if-not-branch.false) in
    record {
      rest = follows.0;
      hints = c.down.invariant.hints;
      size = c.follows.ensures.size ∙ c.pop.ensures.room ∙ c.down.invariant.size;
      waiting = follows.1;
      low = c.if-place-base.false;
      high = omega (arith, c.in-Some.ensures.next.low, c.down.invariant.high);
    }

pub returns-clause-size : goal.returns-clause-size
returns-clause-size c = c.pop.ensures.room ∙ c.down.invariant.size

pub returns-clause-can_walk : goal.returns-clause-can_walk
returns-clause-can_walk c = record {
  within = omega (arith, c.requires.base, c.requires.can_walk.within);
  size = omega (arith, c.requires.can_walk.size, c.pop.ensures.room, c.down.invariant.size);
  waiting = λ j below inside is. absurd (c.in_default.ensures.next j (omega (arith, below, c.down.invariant.low))
      (c.down.invariant.waiting j (omega (arith, below, c.down.invariant.low)) inside ((c.pop.ensures.marks _).0 is)));
}

pub returns-clause-rest : goal.returns-clause-rest
returns-clause-rest c =
    rest_ended _ _ _ _ _ _ _ _ _ c.invariant.ensures.told c.requires.can_walk.within _ _ c.down.end c.down.marks c.pop.new.self c.down.invariant.high
    c.down.invariant.waiting c.pop.ensures.marks c.pop.ensures.found c.down.invariant.rest c.down.invariant.low c.in_default.ensures.next

pub returns-clause-hints : goal.returns-clause-hints
returns-clause-hints c = c.down.invariant.hints
