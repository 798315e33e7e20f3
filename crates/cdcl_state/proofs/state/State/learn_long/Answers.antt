use Rattle.std.proofs.Common.{◌≡◌, ◌+◌, [], ◌∷◌, ◌++◌, Some, take, All, length, get_or, inl, sym, ap, ap₂, ◌∙◌, subst, arith, length-take-le}
use Rattle.std.proofs.lemmas.List.{length_push, get_or_default}
use Rattle.cnf_base.specs.declared.literal.Hint.TheVariants.{Line}
use Rattle.cnf_base.specs.Known.{IsKnown}
use Rattle.clause_log.specs.LogValue.{LogValue, with_line}
use Rattle.cdcl_state.specs.StateValue.{StateValue, with_log, state_of}
use Rattle.cdcl_analyze.specs.Learnt.{IsLearnt}
use Rattle.cdcl_state.specs.Turns.{IsAsserting, IsTarget, IsTurn}
use Rattle.cdcl_state.specs.State.{IsNamed, parts}
use Rattle.cdcl_watches.specs.Watching.{AreApart, blank}
use Rattle.cdcl_trail.specs.declared.assigned.TrailEntry.{TrailEntry}
use Rattle.cdcl_state.proofs.Attach.{line_more, known_more}
use Rattle.cdcl_state.proofs.Learned.{IsCut, learnt_apart, learned_stands, learned_cut, learned}
use Rattle.cdcl_state.proofs.States.{seen, state_same}
use Rattle.cdcl_state.proofs.state.State.learn_long.Goals as goal
use Rattle.cdcl_state.proofs.state.State.learn_long.Goals.{After-index}

pub store-requires-clause-apart : goal.store-requires-clause-apart
store-requires-clause-apart c =
    let learnt = c.args.learnt.now in
    let trail = c.self.inside.assigned.trail in
    let is : IsLearnt c.self.inside.log trail learnt = subst (λ (s : StateValue). IsLearnt s.log s.trail learnt) (sym c.self.view_is) c.requires.learnt in
    subst AreApart (sym c.deref-3.ensures.value)
    (learnt_apart c.self.inside.assigned.values trail learnt.clause.items learnt.places.items c.invariant.ensures is.clause_is is.inside is.falling)

-- the log with the line, and what the way back leaves for it
abbrev lined : After-index → LogValue
lined c = with_line c.self.inside.log c.args.learnt.now.clause.items c.args.learnt.now.hints.items

next_is : (c : After-index) → c.derive.new.self ≡ lined c
next_is c = c.in_ok-line.ensures.added.0 ∙ ap₂ (with_line c.self.inside.log) c.deref.ensures.value c.deref-2.ensures.value

cut : (c : After-index) → IsCut (parts c.self.inside) c.cut.new.self (lined c) c.min-lasting.result c.front-front.result c.args.level
    c.loosen.new.units_done c.loosen.new.units_trail c.in_ok-line.line c.args.learnt.now.clause.items c.args.learnt.now.places.items c.index.result.now
cut c =
    let learnt = c.args.learnt.now in
    let s = parts c.self.inside in
    let is : IsLearnt s.log s.assigned.trail learnt = subst (λ (v : StateValue). IsLearnt v.log v.trail learnt) (sym c.self.view_is) c.requires.learnt in
    let known : All (IsKnown s.letters) learnt.clause.items =
    subst (λ (v : StateValue). All (IsKnown v.letters) learnt.clause.items) (sym c.self.view_is) c.requires.known in
    let count : c.in_ok-line.line ≡ length s.log.lines + 1 =
    c.in_ok-line.ensures.added.1 ∙ ap (λ (l : LogValue). length l.lines) c.in_ok-line.ensures.added.0 ∙ length_push s.log.lines c.deref.result.now in
    record {
      state = c.self.invariant;
      are = c.invariant.ensures;
      more = line_more s.log learnt.clause.items learnt.hints.items c.in_ok-line.line count;
      known_inputs = c.self.invariant.known_inputs;
      known_lines = known_more s.letters s.log.lines learnt.clause.items c.self.invariant.known_lines known;
      trail_is = c.cut.ensures.trail;
      values_is = c.cut.ensures.letters;
      fits = c.front-front.ensures.within;
      low = c.front-front.ensures.low;
      high = c.front-front.ensures.high;
      m_lasting = omega (arith, c.min-lasting.ensures);
      m_n = omega (arith, c.min-lasting.ensures);
      units_are = c.loosen.ensures.all;
      clause_is = is.clause_is;
      inside = is.inside;
      falling = is.falling;
      asserting = subst (λ (v : StateValue). IsAsserting v.trail learnt.places.items) (sym c.self.view_is) c.requires.asserting;
      target = subst (λ (v : StateValue). IsTarget v.trail learnt.places.items c.args.level) (sym c.self.view_is) c.requires.level;
      u_is = c.index.ensures;
    }

named : (c : After-index) → IsNamed c.self.inside.watches c.store.new.watches c.args.learnt.now.clause.items (Line c.in_ok-line.line)
named c = subst (λ r. IsNamed c.self.inside.watches c.store.new.watches r (Line c.in_ok-line.line)) c.deref-3.ensures.value c.in-Ok.ensures.stored

pub assign-requires-clause-unset : goal.assign-requires-clause-unset
assign-requires-clause-unset c = (learned_stands (cut (goal.at.assign-requires-clause-unset c).After-index)).0.unset

pub invariant_of-self-in_err-assign : goal.invariant_of-self-in_err-assign
invariant_of-self-in_err-assign c =
    let p = (goal.at.invariant_of-self-in_err-assign c).After-index in
    let e : TrailEntry = record { literal = c.index.result.now; level = c.args.level; reason = Some (Line c.in_ok-line.line) } in
    rw (next_is p)
    (state_same c.assign.new.self e (learned_cut (cut p) (named p) c.requires.long) c.in_err-assign.ensures.letters (learned_stands (cut p)).0.stands
    (λ free. cc) c.in_err-assign.ensures.trail)

pub invariant_of-self-2 : goal.invariant_of-self-2
invariant_of-self-2 c =
    let p = (goal.at.invariant_of-self-2 c).After-index in
    let first : c.index.result.now ≡ get_or c.args.learnt.now.clause.items 0 blank =
    c.index.ensures ∙ get_or_default c.args.learnt.now.clause.items 0 c.index.result.now blank (omega (arith, c.requires.long)) in
    rw (next_is p)
    (learned (cut p) (named p) c.requires.long c.assign.new.self c.invariant-2.ensures c.in_ok-assign.ensures.letters c.in_ok-assign.ensures.trail first)

pub returns-clause-turned : goal.returns-clause-turned
returns-clause-turned c =
    let p = (goal.at.returns-clause-turned c).After-index in
    let s = parts c.self.inside in
    let e : TrailEntry = record { literal = c.index.result.now; level = c.args.level; reason = Some (Line c.in_ok-line.line) } in
    let n = length c.cut.new.self.trail in
    let len : n ≡ c.front-front.result =
    ap length c.cut.ensures.trail ∙ length-take-le c.front-front.result s.assigned.trail c.front-front.ensures.within in
    let turn : IsTurn (seen (record s { log = lined p })) (seen (record s { assigned = c.assign.new.self; log = c.derive.new.self })) = record {
      place = n;
      entry = e;
      decision = (learned_stands (cut p)).1;
      forced = λ free. cc;
      after = ap₂ (λ t l. state_of s.letters t l s.all_lines)
          (c.in_ok-assign.ensures.trail ∙ ap (λ t. t ++ e ∷ []) (c.cut.ensures.trail ∙ ap (λ k. take k s.assigned.trail) (sym len))) (next_is p);
    } in
    subst (λ (v : StateValue). IsTurn (with_log v (with_line v.log c.args.learnt.now.clause.items c.args.learnt.now.hints.items))
    (seen (record s { assigned = c.assign.new.self; log = c.derive.new.self }))) c.self.view_is turn

pub invariant_of-self-in-Err : goal.invariant_of-self-in-Err
invariant_of-self-in-Err c =
    let back = c.take_back_line.ensures c.self.inside.log
    (record { clause = c.deref.result.now; hints = c.deref-2.result.now; is = c.in_ok-line.ensures.added.0 }) in
    rw (c.in-Err.ensures.refused, back) c.self.invariant

pub returns-in-Err-clause-refused : goal.returns-in-Err-clause-refused
returns-in-Err-clause-refused c =
    let back = c.take_back_line.ensures c.self.inside.log
    (record { clause = c.deref.result.now; hints = c.deref-2.result.now; is = c.in_ok-line.ensures.added.0 }) in
    record { letters = ap (λ (s : StateValue). s.letters) c.self.view_is; log = inl (back ∙ ap (λ (s : StateValue). s.log) c.self.view_is) }
