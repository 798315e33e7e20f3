-- A trail is no longer than there are letters.
use Rattle.std.proofs.Common.{inl, inr, ℕ, ◌<◌, ◌≤◌, List, [], ◌∷◌, ◌++◌, Bool, not, Option, Some, map, All, length, get_or, set, eqb, arith, length-set}
use Rattle.std.proofs.lemmas.Bool.{eqb-true}
use Rattle.std.proofs.lemmas.Bool.Decides.{eqb_tells}
use Rattle.std.proofs.lemmas.Map.Keys.{IsDistinct-from_apart}
use Rattle.std.proofs.lemmas.Map.Steps.{length-le_from_distinct_below}
use Rattle.std.proofs.lemmas.List.{length-map, get_or-map, length_push}
use Rattle.std.proofs.lemmas.List.Elements.{All-map, All-contains}
use Rattle.cnf_base.proofs.Soundness.{some_element}
use Rattle.cdcl_trail.specs.Trail.{AreValues, IsUnset, literals_of, blank_entry}
use Rattle.cdcl_trail.proofs.Assign.{values_push}
use Rattle.cdcl_trail.specs.declared.assigned.TrailEntry.{TrailEntry}

-- a trail whose letters are below n
pub bounded_by : (values : List (Option Bool)) (trail : List TrailEntry) (n : ℕ) → AreValues values trail → All (λ e. e.literal.letter.0 < n) trail
    → length trail ≤ n
bounded_by values trail n are below_n =
    let f : TrailEntry → ℕ = λ e. e.literal.letter.0 in
    let xs = map f trail in
    let same = length-map trail f in
    let distinct = IsDistinct-from_apart eqb xs (λ i j d earlier below.
    let ne = are.apart i j blank_entry earlier (omega arith) in
    let ei = get_or-map f trail i blank_entry d (omega arith) in
    let ej = get_or-map f trail j blank_entry d (omega arith) in
    rw (
      ei,
      ej,
    ) (elim (eqb_tells (f (get_or trail i blank_entry)) (f (get_or trail j blank_entry))) [ inl equal ↦ absurd (ne equal.1) | inr apart ↦ apart.0 ])) in
    rw (← same) (length-le_from_distinct_below xs n distinct (λ q is.
    let found = some_element (eqb q) xs is in
    rw (eqb-true q found.0 found.2) (All-contains (λ x. x < n) xs found.0 (All-map (λ x. x < n) f trail below_n) found.1)))

pub trail_bounded : (values : List (Option Bool)) (trail : List TrailEntry) → AreValues values trail → length trail ≤ length values
trail_bounded values trail are = bounded_by values trail (length values) are are.known

-- where a letter has no value the trail is shorter
pub room_left : (values : List (Option Bool)) (trail : List TrailEntry) (e : TrailEntry) → AreValues values trail → IsUnset (literals_of trail) e.literal
    → e.literal.letter.0 < length values → length trail < length values
room_left values trail e are unset known =
    let x = e.literal.letter.0 in
    let v : Option Bool = Some (not e.literal.negated) in
    omega (arith, trail_bounded (set values x v) (trail ++ e ∷ []) (values_push values trail e are unset known), length_push trail e, length-set values x v)
