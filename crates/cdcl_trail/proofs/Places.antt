-- The places at which the letters of the trail stand, as an entry is put on the trail or taken off it.
use Rattle.std.proofs.Common.{◌≡◌, ◌≢◌, ℕ, ◌<◌, ◌+◌, inl, inr, List, [], ◌∷◌, ◌++◌, Bool, Option, Contains, length, get_or, set, sym, ap, ◌∙◌, subst}
use Rattle.std.proofs.Common.{arith, length-set, get_or-set_same, get_or-set_other}
use Rattle.std.proofs.lemmas.Bool.{cases_lt}
use Rattle.std.proofs.lemmas.List.{get_or_append_left, get_or_at, length_push}
use Rattle.cnf_base.specs.declared.literal.Literal.{Literal}
use Rattle.cdcl_trail.specs.Trail.{literals_of, IsUnset, AreValues, blank_entry, literal_at}
use Rattle.cdcl_trail.specs.Assigned.{ArePlaces}
use Rattle.cdcl_trail.specs.declared.assigned.TrailEntry.{TrailEntry}
use Rattle.cdcl_trail.proofs.Assign.{apart_from_unset, entry_there}
use Rattle.cdcl_trail.proofs.Standing.{place_of}

-- the letter of the new entry stands at the end
pub places_push : (places : List ℕ) (values : List (Option Bool)) (trail : List TrailEntry) (e : TrailEntry) (v : Option Bool) → ArePlaces places values trail
    → IsUnset (literals_of trail) e.literal → e.literal.letter.0 < length values
    → ArePlaces (set places e.literal.letter.0 (length trail)) (set values e.literal.letter.0 v) (trail ++ e ∷ [])
places_push places values trail e v are unset known =
    let x = e.literal.letter.0 in
    let more = set places x (length trail) in
    record {
      room = omega (arith, are.room, length-set places x (length trail), length-set values x v);
      few = omega (arith, are.few, length-set values x v);
      at = λ k below. elim (cases_lt k (length trail)) [
        | inl old ↦
            let other : (literal_at trail k).letter.0 ≢ x =
            apart_from_unset (literals_of trail) (literal_at trail k) e.literal (entry_there trail k blank_entry old) unset in
            subst (λ (f : TrailEntry). get_or more f.literal.letter.0 0 ≡ k) (sym (get_or_append_left trail (e ∷ []) blank_entry k old))
            (get_or-set_other places x (literal_at trail k).letter.0 (length trail) 0 other ∙ are.at k old)
        | inr high ↦
            let last : length trail ≡ k = omega (arith, length_push trail e) in
            subst (λ (f : TrailEntry). get_or more f.literal.letter.0 0 ≡ k) (sym (get_or_at trail e [] blank_entry k last))
            (get_or-set_same places x (length trail) 0 (omega (arith, known, are.room)) ∙ last)
      ];
    }

pub places_pop : (places : List ℕ) (values : List (Option Bool)) (trail : List TrailEntry) (e : TrailEntry) (x : ℕ) (v : Option Bool)
    → ArePlaces places values (trail ++ e ∷ []) → ArePlaces places (set values x v) trail
places_pop places values trail e x v are = record {
  room = omega (arith, are.room, length-set values x v);
  few = omega (arith, are.few, length-set values x v);
  at = λ k below. subst (λ (f : TrailEntry). get_or places f.literal.letter.0 0 ≡ k) (get_or_append_left trail (e ∷ []) blank_entry k below)
      (are.at k (omega (arith, below, length_push trail e)));
}

-- a true literal has a place, and stands at it
pub record StandsThere (places : List ℕ) (trail : List TrailEntry) (l : Literal) : Type 0 where
  pub known : l.letter.0 < length places
  pub within : get_or places l.letter.0 0 < length trail
  pub is : literal_at trail (get_or places l.letter.0 0) ≡ l

pub stands_there : (places : List ℕ) (values : List (Option Bool)) (trail : List TrailEntry) (l : Literal) → AreValues values trail
    → ArePlaces places values trail
    → Contains (literals_of trail) l → StandsThere places trail l
stands_there places values trail l told are there =
    let at = place_of trail l there in
    let same : (literal_at trail at.0).letter.0 ≡ l.letter.0 = ap (λ (m : Literal). m.letter.0) at.2 in
    let is : get_or places l.letter.0 0 ≡ at.0 = ap (λ x. get_or places x 0) (sym same) ∙ are.at at.0 at.1 in
    record {
      known = omega (arith, told.known at.0 blank_entry at.1, are.room, same);
      within = omega (arith, is, at.1);
      is = ap (λ k. literal_at trail k) is ∙ at.2;
    }
