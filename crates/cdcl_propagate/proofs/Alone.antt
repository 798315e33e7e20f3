-- Clauses of one literal or none.
use Rattle.std.proofs.Common.{◌≡◌, ℕ, ◌<◌, ◌+◌, ◌-◌, ◌⊎◌, inl, inr, List, ◌∷◌, ◌++◌, Some, Contains, length, get_or, sym, ap, ◌∙◌, subst, []}
use Rattle.std.proofs.Common.{arith}
use Rattle.std.proofs.lemmas.Bool.{cases_lt}
use Rattle.std.proofs.lemmas.List.{get_or_default, map-append}
use Rattle.std.proofs.lemmas.List.Elements.{Contains-get_or, Contains-append_left, Contains-push}
use Rattle.cnf_base.specs.declared.literal.Literal.{Literal}
use Rattle.cnf_base.specs.declared.literal.Hint.{Hint}
use Rattle.cnf_base.specs.Step.{named}
use Rattle.cdcl_trail.specs.Trail.{literals_of, IsReason, IsTrail, StandsAt, HasLevel, blank_entry, place_level}
use Rattle.cdcl_propagate.specs.Visit.{HasTrue, IsGrown}
use Rattle.cdcl_propagate.specs.Units.{IsOne, AreFirm}
use Rattle.cdcl_trail.specs.declared.assigned.TrailEntry.{TrailEntry}
use Rattle.cdcl_trail.proofs.Assign.{level_there}
use Rattle.cdcl_trail.proofs.Levels.{levels_rise, level_bound}

-- the last level, or 0
abbrev pub IsLastLevel : List TrailEntry → ℕ → Type 0
IsLastLevel trail level = ((length trail ≡ 0) × (level ≡ 0)) ⊎ ((0 < length trail) × (level ≡ place_level trail (length trail - 1)))

-- the one literal of a short clause stands behind the trail
pub unit_stands : (inputs lines : List (List Literal)) (trail : List TrailEntry) (hint : Hint) (clause : List Literal) (u : Literal) (level : ℕ)
    → IsTrail inputs lines trail → named inputs lines hint ≡ Some clause → IsOne clause → Contains clause u
    → IsLastLevel trail level → StandsAt inputs lines trail (record { literal = u; level = level; reason = Some hint })
unit_stands inputs lines trail hint clause u level is_trail is one there last =
    let reason : IsReason inputs lines (literals_of trail) u hint =
    record { clause = clause; is = is; there = there; others = λ i d below. inl (one (get_or clause i d) u (Contains-get_or clause i d below) there) } in
    elim last [
      | inl none ↦ record {
        reason = (reason, omega (arith, none.1), inl none.1);
        decision = λ e. cc;
        rising = λ k d below. absurd (omega (arith, below, none.0));
      }
      | inr some ↦
          let n = length trail - 1 in
          let n_low : n < length trail = omega (arith, some.0) in
          record {
            reason = (
              reason,
              level_bound inputs lines trail is_trail n (length trail) n_low (omega arith) level (sym some.1),
              inr (subst (HasLevel trail) (sym some.1) (level_there trail n blank_entry n_low)),
            );
            decision = λ e. cc;
            rising = λ k d below. elim (cases_lt k n) [
              | inl front ↦ omega (
                arith,
                levels_rise inputs lines trail is_trail k n front n_low,
                some.1,
                ap (λ (e : TrailEntry). e.level) (get_or_default trail k d blank_entry below),
              )
              | inr end ↦ let same : k ≡ n = omega (arith, below) in
                  omega (arith, ap (λ m. (get_or trail m d).level) same, ap (λ (e : TrailEntry). e.level) (get_or_default trail n d blank_entry n_low), some.1)
            ];
          }
    ]

pub pushed_true : (trail : List TrailEntry) (e : TrailEntry) → Contains (literals_of (trail ++ e ∷ [])) e.literal
pushed_true trail e =
    subst (λ ls. Contains ls e.literal) (sym (map-append (λ (f : TrailEntry). f.literal) trail (e ∷ []))) (Contains-push (literals_of trail) e.literal)

-- what is true stays true
pub true_grown : (old new : List TrailEntry) (clause : List Literal) → IsGrown old new → HasTrue (literals_of old) clause → HasTrue (literals_of new) clause
true_grown old new clause grown told = (
  told.0,
  told.1,
  subst (λ t. Contains (literals_of t) told.0) (sym grown.trail)
      (subst (λ ls. Contains ls told.0) (sym (map-append (λ (f : TrailEntry). f.literal) old grown.more))
      (Contains-append_left (literals_of old) (literals_of grown.more) told.0 told.2)),
)

-- one short clause more is true
pub firm_more : (inputs lines : List (List Literal)) (units : List Hint) (n : ℕ) (old new : List TrailEntry) (hint d : Hint) → IsGrown old new
    → AreFirm inputs lines units n (literals_of old) → hint ≡ get_or units n d → n < length units
    → ((clause : List Literal) → named inputs lines hint ≡ Some clause → HasTrue (literals_of new) clause)
    → AreFirm inputs lines units (n + 1) (literals_of new)
firm_more inputs lines units n old new hint d grown firm hint_is low here u clause below is = elim (cases_lt u n) [
  | inl less ↦ true_grown old new clause grown (firm u clause less is)
  | inr end ↦
      let same : u ≡ n = omega arith in
      here clause (ap (named inputs lines) (hint_is ∙ ap (λ m. get_or units m d) (sym same) ∙ get_or_default units u d _ (omega arith)) ∙ is)
]
