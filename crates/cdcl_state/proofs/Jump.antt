-- Where a learnt clause of any literals forces its first.
use Rattle.std.proofs.Common.{◌≡◌, ℕ, ◌<◌, ◌≤◌, inl, inr, List, Bool, Option, Some, map, All, AllPairs, Contains, length, get_or, refl, sym, ap, ◌∙◌, subst}
use Rattle.std.proofs.Common.{arith}
use Rattle.std.proofs.lemmas.Bool.{cases_lt}
use Rattle.std.proofs.lemmas.List.{get_or-map, length-map, get_or_default}
use Rattle.cnf_base.specs.declared.literal.Literal.{Literal}
use Rattle.cnf_base.specs.declared.literal.Hint.TheVariants.{Line}
use Rattle.cnf_base.specs.Literal.{opposite}
use Rattle.cnf_base.specs.Step.{named}
use Rattle.cnf_base.proofs.SameLiteral.{opposite_opposite}
use Rattle.clause_log.specs.LogValue.{LogValue}
use Rattle.cdcl_state.specs.StateValue.{StateValue, MayStand, IsBack}
use Rattle.cdcl_trail.specs.Trail.{literals_of, HasLevel, IsReason, IsTrail, AreValues, blank_entry, literal_at, IsDecision, IsInside}
use Rattle.cdcl_trail.specs.declared.assigned.TrailEntry.{TrailEntry}
use Rattle.cdcl_trail.proofs.Assign.{level_there, entry_there}
use Rattle.cdcl_trail.proofs.Standing.{true_place, places_apart}
use Rattle.cdcl_trail.proofs.Levels.{level_at, levels_rise, level_bound}
use Rattle.cdcl_state.proofs.Back.{front_trail, kept_at, low_kept, high_dropped, first_dropped}
use Rattle.cdcl_state.specs.Turns.{IsTarget}

pub jump_stands : (values : List (Option Bool)) (old new : StateValue) (b line : ℕ) (clause : List Literal) (places : List ℕ) (u : Literal)
    → AreValues values old.trail → IsTrail old.log.inputs old.log.lines old.trail → IsBack old new b → IsTarget old.trail places b
    → clause ≡ map (λ p. opposite (literal_at old.trail p)) places → All (IsInside old.trail) places → AllPairs (λ p q. q < p) places → 0 < length places
    → b < level_at old.trail (get_or places 0 0)
    → named old.log.inputs old.log.lines (Line line) ≡ Some clause → u ≡ get_or clause 0 u
    → MayStand new (record { literal = u; level = b; reason = Some (Line line) }) × IsDecision old.trail (length new.trail)
jump_stands values old new b line clause places u are is_trail back target clause_is decisions falling some target_below is_line u_is =
    let inputs = old.log.inputs in
    let lines = old.log.lines in
    let p0 = get_or places 0 0 in
    let d0 = decisions 0 0 some in
    let clause_length : length clause ≡ length places = ap length clause_is ∙ length-map places (λ p. opposite (literal_at old.trail p)) in
    let u_at : u ≡ opposite (literal_at old.trail p0) =
    u_is ∙ ap (λ c. get_or c 0 u) clause_is ∙ get_or-map (λ p. opposite (literal_at old.trail p)) places 0 0 u some in
    let dropped = first_dropped old new b is_trail back p0 d0 target_below in
    let same_log : new.log ≡ old.log = ap (λ (s : StateValue). s.log) back.front in
    let second : 1 < length places → (get_or places 1 0 < length new.trail) × (level_at old.trail (get_or places 1 0) ≡ b) = λ more.
    let d1 = decisions 1 0 more in
    let is_b : level_at old.trail (get_or places 1 0) ≡ b = sym (target.second more) in
    (low_kept old new b is_trail back (get_or places 1 0) d1 (omega (arith, is_b)), is_b) in
    let reason : IsReason inputs lines (literals_of new.trail) u (Line line) = record {
      clause = clause;
      is = is_line;
      there = (0, omega (arith, clause_length), sym u_is);
      others = λ i d below. elim (cases_lt 0 i) [
        | inr first ↦
            let is_first : i ≡ 0 = omega arith in
            inl (ap (λ n. get_or clause n d) is_first ∙ get_or_default clause 0 d u (omega (arith, clause_length)) ∙ sym u_is)
        | inl later ↦
            let below_places : i < length places = omega (arith, clause_length) in
            let p = get_or places i 0 in
            let di = decisions i 0 below_places in
            let more : 1 < length places = omega arith in
            let le : p ≤ get_or places 1 0 = elim (cases_lt 1 i) [
              | inl beyond ↦ omega (arith, falling 1 i 0 beyond below_places)
              | inr at ↦ let one : i ≡ 1 = omega arith in omega (arith, ap (λ n. get_or places n 0) one)
            ] in
            let li : level_at old.trail p ≤ level_at old.trail (get_or places 1 0) = elim (cases_lt p (get_or places 1 0)) [
              | inl lt ↦ levels_rise inputs lines old.trail is_trail p (get_or places 1 0) lt (decisions 1 0 more)
              | inr ge ↦ let same : p ≡ get_or places 1 0 = omega arith in omega (arith, ap (level_at old.trail) same)
            ] in
            let kept = low_kept old new b is_trail back p di (omega (arith, li, target.second more)) in
            let is_l : get_or clause i d ≡ opposite (literal_at old.trail p) =
            ap (λ c. get_or c i d) clause_is ∙ get_or-map (λ q. opposite (literal_at old.trail q)) places i 0 d below_places in
            let there = subst (λ (e : TrailEntry). Contains (literals_of new.trail) e.literal) (kept_at old new b is_trail back p kept)
            (entry_there new.trail p blank_entry kept) in
            inr (subst (Contains (literals_of new.trail)) (sym (ap opposite is_l ∙ opposite_opposite (literal_at old.trail p))) there)
      ];
    } in
    let n = length new.trail in
    let foreign : (m : Literal) → m.letter.0 ≡ u.letter.0 → ¬ Contains (literals_of new.trail) m = λ m same there.
    let place = true_place old.trail n m back.short (subst (λ t. Contains (literals_of t) m) (front_trail old new b is_trail back) there) in
    let above = high_dropped old new b is_trail back p0 target_below in
    places_apart values old.trail are place.0 p0 (omega (arith, place.1, back.short)) d0 (λ e. omega (arith, e, place.1, above))
    (ap (λ (l : Literal). l.letter.0) place.2 ∙ same ∙ ap (λ (l : Literal). l.letter.0) u_at) in (
      record {
        stands = record {
          reason =
              let of_new : IsReason new.log.inputs new.log.lines (literals_of new.trail) u (Line line) =
              subst (λ (l : LogValue). IsReason l.inputs l.lines (literals_of new.trail) u (Line line)) (sym same_log) reason in
              elim (cases_lt 1 (length places)) [
                | inl more ↦ (
                  of_new,
                  level_bound inputs lines old.trail is_trail (get_or places 1 0) (length new.trail) (second more).0 back.short b (second more).1,
                  inr (subst (HasLevel new.trail) (ap (λ (e : TrailEntry). e.level) (kept_at old new b is_trail back (get_or places 1 0) (second more).0)
                      ∙ (second more).1) (level_there new.trail (get_or places 1 0) blank_entry (second more).0)),
                )
                | inr lone ↦ (of_new, omega (arith, target.lone lone), inl (target.lone lone))
              ];
          decision = λ e. cc;
          rising = back.low;
        };
        unset = record { not_true = foreign u refl; not_false = foreign (opposite u) refl };
      },
      dropped,
    )
