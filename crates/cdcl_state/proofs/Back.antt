-- What a way back keeps of a trail and of the watch rule.
use Rattle.std.proofs.Common.{◌≡◌, ℕ, ◌<◌, ◌≤◌, ◌⊎◌, inl, inr, List, Option, Some, None, take, length, get_or, refl, sym, ap, ◌∙◌, subst, arith, IfSome}
use Rattle.std.proofs.Common.{Contains}
use Rattle.std.proofs.lemmas.Bool.{cases_lt, cases_eq}
use Rattle.std.proofs.lemmas.List.{get_or-map, length-map, get_or-take}
use Rattle.cnf_base.specs.declared.literal.Literal.{Literal}
use Rattle.cnf_base.specs.declared.literal.Hint.{Hint}
use Rattle.cdcl_state.specs.StateValue.{StateValue, IsBack}
use Rattle.cdcl_trail.specs.Trail.{literals_of, HasLevel, IsReason, IsTrail, blank_entry, IsDecision}
use Rattle.cdcl_trail.specs.declared.assigned.TrailEntry.{TrailEntry}
use Rattle.cdcl_trail.proofs.Levels.{level_at, levels_rise}
use Rattle.cdcl_watches.specs.Watching.{clause_of}
use Rattle.cdcl_propagate.specs.Lasting.{IsLasting}

module _ (old new : StateValue) (b : ℕ) (is_trail : IsTrail old.log.inputs old.log.lines old.trail) (back : IsBack old new b) where
  pub front_trail : new.trail ≡ take (length new.trail) old.trail
  front_trail = ap (λ (s : StateValue). s.trail) back.front

  pub kept_at : (k : ℕ) → k < length new.trail → get_or new.trail k blank_entry ≡ get_or old.trail k blank_entry
  kept_at k below = ap (λ t. get_or t k blank_entry) front_trail ∙ get_or-take (length new.trail) old.trail k blank_entry below

  -- what has at most the level is kept, and what is above is not
  pub low_kept : (p : ℕ) → p < length old.trail → level_at old.trail p ≤ b → p < length new.trail
  low_kept p within low = elim (cases_lt p (length new.trail)) [
    | inl kept ↦ kept
    | inr above ↦
        let shorter : length new.trail < length old.trail = omega arith in
        let high = back.high blank_entry shorter in
        elim (cases_eq (length new.trail) p) [
          | inl same ↦ absurd (omega (arith, high, low, ap (level_at old.trail) same))
          | inr differ ↦
              absurd (omega (arith, high, low, levels_rise old.log.inputs old.log.lines old.trail is_trail (length new.trail) p (omega (arith, differ)) within))
        ]
  ]

  pub high_dropped : (p : ℕ) → b < level_at old.trail p → length new.trail ≤ p
  high_dropped p high = elim (cases_lt p (length new.trail)) [
    | inl kept ↦ absurd (omega (arith, back.low p blank_entry kept, ap (λ (e : TrailEntry). e.level) (kept_at p kept), high))
    | inr above ↦ above
  ]

  -- the first entry that is not kept is a decision
  not_forced : (hint : Hint) → length new.trail < length old.trail → ¬ ((get_or old.trail (length new.trail) blank_entry).reason ≡ Some hint)
  not_forced hint shorter is =
      let n = length new.trail in
      let e = get_or old.trail n blank_entry in
      let above = back.high blank_entry shorter in
      let here = (is_trail n blank_entry shorter).reason in
      let told = subst (λ o. IfSome o (λ h. IsReason old.log.inputs old.log.lines (literals_of (take n old.trail)) e.literal h
      × (e.level ≤ length (take n old.trail)) × ((e.level ≡ 0) ⊎ HasLevel (take n old.trail) e.level))) is here in
      elim told.2 [
        | inl none ↦ omega (arith, above, none)
        | inr has ↦
            let there = subst (λ t. HasLevel t e.level) (sym front_trail) has in
            let below : there.0 < length new.trail = omega (arith, there.1, length-map new.trail (λ (f : TrailEntry). f.level)) in
            let level_is : (get_or new.trail there.0 blank_entry).level ≡ e.level =
            sym (get_or-map (λ (f : TrailEntry). f.level) new.trail there.0 blank_entry e.level below) ∙ there.2 in
            omega (arith, above, level_is, back.low there.0 blank_entry below)
      ]

  pub first_dropped : (p : ℕ) → p < length old.trail → b < level_at old.trail p → IsDecision old.trail (length new.trail)
  first_dropped p within high =
      let shorter : length new.trail < length old.trail = omega (arith, high_dropped p high) in
      record { within = shorter; free = none_or (get_or old.trail (length new.trail) blank_entry).reason (λ hint. not_forced hint shorter) }
    where
      none_or : (o : Option Hint) → ((hint : Hint) → ¬ (o ≡ Some hint)) → o ≡ None
      none_or None h = refl
      none_or (Some hint) h = absurd (h hint refl)

-- back to a level, what is left of the lasting places is lasting
pub lasting_back : (clauses : List (List Literal)) (old new : StateValue) (b n m : ℕ) → IsTrail old.log.inputs old.log.lines old.trail → IsBack old new b
    → IsLasting clauses old.trail n → m ≤ n → m ≤ length new.trail → IsLasting clauses new.trail m
lasting_back clauses old new b n m is_trail back lasting le within c k a known watch below is_false =
    let k_low : k < length new.trail = omega arith in
    let k_same = kept_at old new b is_trail back k k_low in
    let at = lasting c k a known watch (omega arith) (ap (λ (e : TrailEntry). e.literal) (sym k_same) ∙ is_false) in
    let k_level : level_at old.trail k ≤ b = subst (λ (e : TrailEntry). e.level ≤ b) k_same (back.low k blank_entry k_low) in
    let kept = low_kept old new b is_trail back at.0 at.1 (omega (arith, at.3)) in
    let same = kept_at old new b is_trail back at.0 kept in (
      at.0,
      kept,
      subst (Contains (clause_of clauses c)) (ap (λ (e : TrailEntry). e.literal) (sym same)) at.2,
      omega (
        arith,
        ap (λ (e : TrailEntry). e.level) same,
        ap (λ (e : TrailEntry). e.level) k_same,
        at.3,
      ),
    )
