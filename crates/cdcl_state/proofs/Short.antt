-- A learnt clause of one literal forces it on level 0; one of decisions forces its first literal, or is empty.
use Rattle.std.proofs.Common.{◌≡◌, ◌≢◌, ℕ, ◌<◌, ◌⊎◌, inl, inr, List, [], ◌∷◌, ◌++◌, Bool, Option, Some, None, map, All, length, get_or, refl, sym, ap}
use Rattle.std.proofs.Common.{◌∙◌, subst, arith}
use Rattle.std.proofs.lemmas.Bool.{cases_lt}
use Rattle.std.proofs.lemmas.List.{length-map, length_push, nil_from_length}
use Rattle.cnf_base.specs.declared.literal.Literal.{Literal}
use Rattle.cnf_base.specs.declared.literal.Hint.TheVariants.{Line}
use Rattle.cnf_base.specs.Literal.{opposite}
use Rattle.clause_log.specs.LogValue.{LogValue, with_line}
use Rattle.cdcl_state.specs.StateValue.{StateValue, with_trail, with_log, IsBack, MayStand}
use Rattle.cdcl_trail.specs.Trail.{IsTrail, AreValues, literal_at, IsDecision}
use Rattle.cdcl_analyze.specs.Learnt.{IsLearnt}
use Rattle.cdcl_state.specs.Turns.{IsAsserting, IsTurn}
use Rattle.cdcl_trail.specs.declared.assigned.TrailEntry.{TrailEntry}
use Rattle.cdcl_analyze.specs.declared.analyze.Learnt.{Learnt}
use Rattle.cdcl_state.proofs.Attach.{line_more, trail_more}
use Rattle.cdcl_state.proofs.Jump.{jump_stands}
use Rattle.cdcl_state.proofs.Learning.{decisions_asserting}

-- what a line forces on level 0
abbrev pub forced_by : Literal → ℕ → TrailEntry
forced_by u line = record { literal = u; level = 0; reason = Some (Line line) }

pub learnt_asserting : (log : LogValue) (trail : List TrailEntry) (learnt : Learnt) → IsTrail log.inputs log.lines trail → IsLearnt log trail learnt
    → All (IsDecision trail) learnt.places.items
    → (learnt.clause.items ≡ []) ⊎ IsAsserting trail learnt.places.items
learnt_asserting log trail learnt is_trail is decisions = elim (cases_lt 0 (length learnt.places.items)) [
  | inl some ↦ inr (decisions_asserting log.inputs log.lines trail learnt.places.items is_trail decisions is.falling some)
  | inr none ↦ inl (is.clause_is ∙ ap (map (λ p. opposite (literal_at trail p))) (nil_from_length learnt.places.items (omega arith)))
]

-- the state before the way back
abbrev pub lined : StateValue → Learnt → StateValue
lined old learnt = with_log old (with_line old.log learnt.clause.items learnt.hints.items)

pub short_stands : (values : List (Option Bool)) (old mid back : StateValue) (line : ℕ) (learnt : Learnt) (u : Literal) → AreValues values old.trail
    → IsTrail old.log.inputs old.log.lines old.trail → IsLearnt old.log old.trail learnt
    → IsAsserting old.trail learnt.places.items → length learnt.clause.items < 2 → mid ≡ lined old learnt → line ≡ length mid.log.lines → IsBack mid back 0
    → u ≡ get_or learnt.clause.items 0 u
    → MayStand back (forced_by u line) × IsDecision mid.trail (length back.trail)
short_stands values old mid back line learnt u are is_trail is asserting short mid_is =
    subst (λ (m : StateValue). line ≡ length m.log.lines → IsBack m back 0 → u ≡ get_or learnt.clause.items 0 u → MayStand back (forced_by u line)
    × IsDecision m.trail (length back.trail)) (sym mid_is)
    (λ (count : line ≡ length (old.log.lines ++ learnt.clause.items ∷ [])) (went : IsBack (lined old learnt) back 0) (first : u ≡ get_or learnt.clause.items 0 u).
    let places = learnt.places.items in
    let clause = learnt.clause.items in
    let few : length places < 2 = omega (arith, short, ap length is.clause_is, length-map places (λ p. opposite (literal_at old.trail p))) in
    let more = line_more old.log clause learnt.hints.items line (omega (arith, count, length_push old.log.lines clause)) in
    jump_stands values (lined old learnt) back 0 line clause places u are
    (trail_more old.log (lined old learnt).log (Line line) clause more old.trail is_trail) went
    (record { lone = λ _. refl; second = λ two. absurd (omega (arith, few, two)) })
    is.clause_is is.inside is.falling asserting.some (asserting.lone (omega (arith, few))) more.here first)

pub short_turned : (mid back new : StateValue) (e : TrailEntry) → IsBack mid back 0 → IsDecision mid.trail (length back.trail)
    → e.reason ≢ None → new ≡ with_trail back (back.trail ++ e ∷ []) → IsTurn mid new
short_turned mid back new e went decision forced is = record {
  place = length back.trail;
  entry = e;
  decision = decision;
  forced = forced;
  after = is ∙ ap (λ (s : StateValue). with_trail s (s.trail ++ e ∷ [])) went.front;
}
