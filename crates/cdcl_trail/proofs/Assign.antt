-- What an entry put on the trail, or taken off it, leaves of the state.
use Rattle.std.proofs.Common.{◌≡◌, ◌≢◌, ℕ, ◌<◌, ◌⊎◌, inl, inr, List, [], ◌∷◌, ◌++◌, Bool, true, false, not, Option, Some, None, map, take, Contains, length}
use Rattle.std.proofs.Common.{get_or, set, refl, sym, ap, ap₂, ◌∙◌, subst, arith, length-set, get_or-set_same, get_or-set_other, ◌≤◌, length-take-le}
use Rattle.std.proofs.lemmas.Bool.{cases_lt, cases_eq}
use Rattle.std.proofs.lemmas.List.{map-append, take-append-le, take_at, get_or_append_left, get_or_at, length_push, length-map, get_or-map, take-take}
use Rattle.std.proofs.lemmas.List.{get_or-take}
use Rattle.std.proofs.lemmas.List.Elements.{All-push, Contains-push, Contains-push_cases, Contains-append_left, Contains-get_or}
use Rattle.cnf_base.specs.declared.literal.Literal.{Literal}
use Rattle.cnf_base.specs.Literal.{opposite}
use Rattle.cnf_base.proofs.SameLiteral.{not_not}
use Rattle.cdcl_trail.specs.Values.{value_at}
use Rattle.cdcl_trail.specs.Trail.{HasLevel, literals_of, IsUnset, StandsAt, IsTrail, AreValues}
use Rattle.cdcl_trail.specs.declared.assigned.TrailEntry.{TrailEntry}

-- two literals of one letter are the same or opposite
pub same_letter : (l u : Literal) → l.letter.0 ≡ u.letter.0 → (l ≡ u) ⊎ (l ≡ opposite u)
same_letter l u same = go l.negated refl u.negated refl
  where
    make : ℕ → Bool → Literal
    make x n = record { letter = record { 0 = x }; negated = n }

    go : (a : Bool) → l.negated ≡ a → (b : Bool) → u.negated ≡ b → (l ≡ u) ⊎ (l ≡ opposite u)
    go true is true neg = inl (ap₂ (λ x n. let m : Literal = record { letter = record { 0 = x }; negated = n } in m) same (is ∙ sym neg))
    go false is false neg = inl (ap₂ (λ x n. let m : Literal = record { letter = record { 0 = x }; negated = n } in m) same (is ∙ sym neg))
    go true is false neg = inr (ap₂ (λ x n. let m : Literal = record { letter = record { 0 = x }; negated = n } in m) same (is ∙ ap not (sym neg)))
    go false is true neg = inr (ap₂ (λ x n. let m : Literal = record { letter = record { 0 = x }; negated = n } in m) same (is ∙ ap not (sym neg)))

-- a true literal has another letter than one without a value
pub apart_from_unset : (true_ones : List Literal) (l u : Literal) → Contains true_ones l → IsUnset true_ones u → l.letter.0 ≢ u.letter.0
apart_from_unset true_ones l u there unset same = elim (same_letter l u same) [
  | inl e ↦ unset.not_true (subst (Contains true_ones) e there)
  | inr e ↦ unset.not_false (subst (Contains true_ones) e there)
]

-- the literal of an entry of the trail is true
pub entry_there : (trail : List TrailEntry) (k : ℕ) (d : TrailEntry) → k < length trail → Contains (literals_of trail) (get_or trail k d).literal
entry_there trail k d below =
    subst (Contains (literals_of trail)) (get_or-map (λ e. e.literal) trail k d d.literal below)
    (Contains-get_or (literals_of trail) k d.literal (rw (length-map trail (λ e. e.literal)) below))

pub level_there : (trail : List TrailEntry) (k : ℕ) (d : TrailEntry) → k < length trail → HasLevel trail (get_or trail k d).level
level_there trail k d below =
    subst (Contains (map (λ e. e.level) trail)) (get_or-map (λ e. e.level) trail k d d.level below)
    (Contains-get_or (map (λ e. e.level) trail) k d.level (rw (length-map trail (λ e. e.level)) below))

some_bool : {a b : Bool} → Some (not a) ≡ Some (not b) → a ≡ b
some_bool {a} {b} e = let f : not a ≡ not b = cc in sym (not_not a) ∙ ap not f ∙ not_not b

module _ (values : List (Option Bool)) (trail : List TrailEntry) (e : TrailEntry) (are : AreValues values trail) (unset : IsUnset (literals_of trail) e.literal)
    (known : e.literal.letter.0 < length values) where
  pub values_push : AreValues (set values e.literal.letter.0 (Some (not e.literal.negated))) (trail ++ e ∷ [])
  values_push =
      let x = e.literal.letter.0 in
      let v : Option Bool = Some (not e.literal.negated) in
      let P : TrailEntry → Type 0 = λ f. value_at (set values x v) f.literal.letter.0 ≡ Some (not f.literal.negated) in
      let pushed : literals_of (trail ++ e ∷ []) ≡ literals_of trail ++ e.literal ∷ [] = map-append (λ f. f.literal) trail (e ∷ []) in
      record {
        true_on = All-push P trail e
            (λ k d below.
            let ne : (get_or trail k d).literal.letter.0 ≢ x = apart_from_unset (literals_of trail) _ e.literal (entry_there trail k d below) unset in
            get_or-set_other values x _ v None ne ∙ are.true_on k d below)
            (get_or-set_same values x v None known);
        on_trail = λ l is. elim (cases_eq l.letter.0 x) [
          | inl same ↦
              let got : Some (not e.literal.negated) ≡ Some (not l.negated) =
              sym (get_or-set_same values x v None known) ∙ ap (λ y. value_at (set values x v) y) (sym same) ∙ is in
              let is_it : l ≡ e.literal = ap₂ (λ y n. let m : Literal = record { letter = record { 0 = y }; negated = n } in m) same (sym (some_bool got)) in
              rw (pushed, is_it) (Contains-push (literals_of trail) e.literal)
          | inr other ↦
              rw pushed
              (Contains-append_left (literals_of trail) (e.literal ∷ []) l (are.on_trail l (sym (get_or-set_other values x l.letter.0 v None other) ∙ is)))
        ];
        apart = λ i j d earlier below. elim (cases_lt j (length trail)) [
          | inl old ↦ rw (get_or_append_left trail (e ∷ []) d i (omega arith), get_or_append_left trail (e ∷ []) d j old) (are.apart i j d earlier old)
          | inr high ↦
              let last : length trail ≡ j = omega (arith, length_push trail e) in
              rw (get_or_append_left trail (e ∷ []) d i (omega arith), get_or_at trail e [] d j last)
              (apart_from_unset (literals_of trail) _ e.literal (entry_there trail i d (omega arith)) unset)
        ];
        known = rw (length-set values x v) (All-push (λ f. f.literal.letter.0 < length values) trail e are.known known);
      }

pub trail_push : (inputs lines : List (List Literal)) (trail : List TrailEntry) (e : TrailEntry) → IsTrail inputs lines trail → StandsAt inputs lines trail e
    → IsTrail inputs lines (trail ++ e ∷ [])
trail_push inputs lines trail e is_trail stands k d below = elim (cases_lt k (length trail)) [
  | inl old ↦ rw (take-append-le k trail (e ∷ []) (omega arith), get_or_append_left trail (e ∷ []) d k old) (is_trail k d old)
  | inr high ↦
      let last : length trail ≡ k = omega (arith, length_push trail e) in
      rw (take_at trail (e ∷ []) k last, get_or_at trail e [] d k last) stands
]

module _ (values : List (Option Bool)) (ys : List TrailEntry) (e : TrailEntry) (are : AreValues values (ys ++ e ∷ [])) where
  pub values_pop : AreValues (set values e.literal.letter.0 None) ys
  values_pop =
      let x = e.literal.letter.0 in
      let longer = length_push ys e in
      let pushed : literals_of (ys ++ e ∷ []) ≡ literals_of ys ++ e.literal ∷ [] = map-append (λ f. f.literal) ys (e ∷ []) in
      record {
        true_on = λ k d below.
            let ne : (get_or ys k d).literal.letter.0 ≢ x =
            subst (λ (f : TrailEntry). f.literal.letter.0 ≢ x) (get_or_append_left ys (e ∷ []) d k below)
            (subst (λ (f : TrailEntry). (get_or (ys ++ e ∷ []) k d).literal.letter.0 ≢ f.literal.letter.0) (get_or_at ys e [] d (length ys) refl)
            (are.apart k (length ys) d below (omega arith))) in
            get_or-set_other values x _ None None ne
            ∙ subst (λ (f : TrailEntry). value_at values f.literal.letter.0 ≡ Some (not f.literal.negated)) (get_or_append_left ys (e ∷ []) d k below)
            (are.true_on k d (omega arith));
        on_trail = λ l is. elim (cases_eq l.letter.0 x) [
          | inl same ↦
              let known : x < length values =
              subst (λ (f : TrailEntry). f.literal.letter.0 < length values) (get_or_at ys e [] e (length ys) refl) (are.known (length ys) e (omega arith)) in
              let gone = sym (get_or-set_same values x None None known) ∙ ap (λ y. value_at (set values x None) y) (sym same) ∙ is in
              cc
          | inr other ↦
              let there = are.on_trail l (sym (get_or-set_other values x l.letter.0 None None other) ∙ is) in
              elim (Contains-push_cases (literals_of ys) e.literal l (subst (λ ts. Contains ts l) pushed there)) [
                | inl h ↦ h
                | inr h ↦ absurd (other (ap (λ (m : Literal). m.letter.0) (sym h)))
              ]
        ];
        apart = λ i j d earlier below.
            rw (← get_or_append_left ys (e ∷ []) d i (omega arith), ← get_or_append_left ys (e ∷ []) d j below) (are.apart i j d earlier (omega arith));
        known = rw (length-set values x None) (λ k d below. rw (← get_or_append_left ys (e ∷ []) d k below) (are.known k d (omega arith)));
      }

pub trail_take : (inputs lines : List (List Literal)) (trail : List TrailEntry) (n : ℕ) → n ≤ length trail → IsTrail inputs lines trail
    → IsTrail inputs lines (take n trail)
trail_take inputs lines trail n fits is_trail k d below =
    let low : k < n = omega (arith, below, length-take-le n trail fits) in
    subst (λ t. StandsAt inputs lines t (get_or (take n trail) k d)) (sym (take-take k n trail (omega arith)))
    (subst (λ e. StandsAt inputs lines (take k trail) e) (sym (get_or-take n trail k d low)) (is_trail k d (omega arith)))
