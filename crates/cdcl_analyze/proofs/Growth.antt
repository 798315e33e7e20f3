-- How what an analysis found out of letters grows, and nothing of it is lost.
use Rattle.std.proofs.Common.{◌≡◌, ◌≢◌, ℕ, ◌+◌, ◌<◌, ◌≤◌, ◌⊎◌, inl, inr, List, [], ◌∷◌, Bool, true, false, Option, Some, None, All, Contains, length, get_or}
use Rattle.std.proofs.Common.{take, refl, sym, ap, ◌∙◌, subst, arith}
use Rattle.std.proofs.lemmas.Bool.{cases_lt, cases_eq}
use Rattle.std.proofs.lemmas.List.{set_past, take-take, take_all, get_or_at, length_push, get_or-take, take-append-le}
use Rattle.std.proofs.lemmas.List.Elements.{All-weaker, All-more}
use Rattle.cnf_base.specs.declared.literal.Literal.{Literal}
use Rattle.cnf_base.specs.declared.literal.Hint.{Hint}
use Rattle.cnf_base.specs.Literal.{opposite}
use Rattle.cnf_base.specs.Step.{named}
use Rattle.cdcl_trail.specs.Trail.{literals_of, literal_at, AreValues, IsTrail}
use Rattle.cdcl_trail.specs.declared.assigned.TrailEntry.{TrailEntry}
use Rattle.cdcl_trail.proofs.Standing.{reason_at as entry_reason, true_place}
use Rattle.cdcl_analyze.specs.Analysis.{AreWaiting}
use Rattle.cdcl_analyze.specs.Waiting.{IsWaiting}
use Rattle.cdcl_analyze.specs.Marks.{MarksValue, IsMarked, outcome_of, with_outcomes, with_consequences, FoundSame, no_consequence, letter_at, reason_at}
use Rattle.cdcl_analyze.specs.Marks.{IsFrom}
use Rattle.cdcl_analyze.specs.Consequences.{StandsBelow, IsKept, IsGiven, IsGivenBy, HasReason, FollowsBy, AreConsequences, Grows}
use Rattle.cdcl_analyze.specs.declared.marks.Consequence.{Consequence}
use Rattle.cdcl_analyze.proofs.Outcomes.{some_same, true_not_false, none_not_some, denied, concluded, outcome_other, outcome_denied, outcome_concluded}
use Rattle.cdcl_analyze.proofs.Outcomes.{outcome_same}
use Rattle.cdcl_analyze.proofs.Places.{stands_before, same_place, place_below}

-- one list of consequences begins with the other
consequence_same : (old new : MarksValue) → take (length old.consequences) new.consequences ≡ old.consequences → (i : ℕ) → i < length old.consequences
    → get_or new.consequences i no_consequence ≡ get_or old.consequences i no_consequence
consequence_same old new first i low =
    sym (get_or-take (length old.consequences) new.consequences i no_consequence low) ∙ ap (λ (cs : List Consequence). get_or cs i no_consequence) first

letter_same : (old new : MarksValue) → take (length old.consequences) new.consequences ≡ old.consequences → (i : ℕ) → i < length old.consequences
    → letter_at new i ≡ letter_at old i
letter_same old new first i low = ap (λ (c : Consequence). c.letter) (consequence_same old new first i low)

pub marked_given : (trail : List TrailEntry) (base : ℕ) (m : MarksValue) (x : ℕ) (b : Bool) → IsMarked m x → outcome_of m x ≡ Some b → IsGiven trail base m x
marked_given trail base m x true marked outcome = inr (inl outcome)
marked_given trail base m x false marked outcome = inl (marked, outcome)

module _ (inputs lines : List (List Literal)) (trail : List TrailEntry) (base : ℕ) where
  given_by : (old new : MarksValue) (i : ℕ) → ((x : ℕ) → IsKept old x → IsKept new x) → ((x : ℕ) → IsMarked old x → IsMarked new x)
      → ((j : ℕ) → j < i → letter_at new j ≡ letter_at old j) → (x : ℕ) → IsGivenBy trail base old i x → IsGivenBy trail base new i x
  given_by old new i kept marked same x given = elim given [
    | inl k ↦ inl (kept x k)
    | inr rest ↦ elim rest [
      | inl among ↦ inr (inl (among.0, among.1, same among.0 among.1 ∙ among.2))
      | inr basic ↦ inr (inr (marked x basic.0, basic.1))
    ]
  ]

  -- what follows by the first i does so still
  each_same : (old new : MarksValue) → take (length old.consequences) new.consequences ≡ old.consequences → ((x : ℕ) → IsKept old x → IsKept new x)
      → ((x : ℕ) → IsMarked old x → IsMarked new x)
      → AreConsequences inputs lines trail base old
      → (i : ℕ) → i < length old.consequences → FollowsBy inputs lines trail base new i (letter_at new i) (reason_at new i)
  each_same old new first kept marked are i low =
      let was = are.each i low in
      let now : FollowsBy inputs lines trail base new i (letter_at old i) (reason_at old i) = record {
        why = was.why;
        clause = was.clause;
        is = was.is;
        others = All-weaker (λ (l : Literal). (l.letter.0 ≡ letter_at old i) ⊎ IsGivenBy trail base old i l.letter.0)
            (λ (l : Literal). (l.letter.0 ≡ letter_at old i) ⊎ IsGivenBy trail base new i l.letter.0)
            (λ l h. elim h [
              | inl same ↦ inl same
              | inr given ↦ inr (given_by old new i kept marked (λ j below. letter_same old new first j (omega (arith, below, low))) l.letter.0 given)
            ]) was.clause was.others;
      } in
      subst (λ (c : Consequence). FollowsBy inputs lines trail base new i c.letter c.reason) (sym (consequence_same old new first i low)) now

  -- the same consequences stand, each of what was kept and of what followed is known still, and no more follows
  module _ (old new : MarksValue) (are : AreConsequences inputs lines trail base old) (stand : new.consequences ≡ old.consequences)
      (marked : (x : ℕ) → IsMarked old x → IsMarked new x) (kept : (x : ℕ) → IsKept old x → IsKept new x)
      (follow : (x : ℕ) → outcome_of old x ≡ Some true → outcome_of new x ≡ Some true)
      (back : (x : ℕ) → outcome_of new x ≡ Some true → outcome_of old x ≡ Some true) where
    stand_length : length new.consequences ≡ length old.consequences
    stand_length = ap (λ (cs : List Consequence). length cs) stand

    stand_first : take (length old.consequences) new.consequences ≡ old.consequences
    stand_first = take_all (length old.consequences) new.consequences (omega (arith, stand_length)) ∙ stand

    consequences_stand : AreConsequences inputs lines trail base new
    consequences_stand =
        let same = letter_same old new stand_first in
        let inside : (i : ℕ) → i < length new.consequences → i < length old.consequences = λ i low. omega (arith, low, stand_length) in
        record {
          each = λ i low. each_same old new stand_first kept marked are i (inside i low);
          follow = λ i low. ap (λ (x : ℕ). outcome_of new x) (same i (inside i low)) ∙ follow (letter_at old i) (are.follow i (inside i low));
          apart = λ i j below low e. are.apart i j below (inside j low) (sym (same i (omega (arith, below, inside j low))) ∙ e ∙ same j (inside j low));
          all = λ x h. let there = are.all x (back x h) in (there.0, omega (arith, there.1, stand_length), same there.0 there.1 ∙ there.2);
        }

    grows_stand : (end : ℕ) → ((x : ℕ) → IsMarked new x → IsMarked old x ⊎ StandsBelow trail base x)
        → ((x : ℕ) → (outcome_of new x ≡ outcome_of old x) ⊎ StandsBelow trail end x)
        → ((e : ℕ) → AreWaiting trail e old → AreWaiting trail e new) → Grows inputs lines trail base end old new
    grows_stand end based fresh waiting = record {
      consequences = consequences_stand;
      marked = marked;
      based = based;
      kept = kept;
      follow = follow;
      fresh = fresh;
      long = omega (arith, stand_length);
      first = stand_first;
      waiting = waiting;
    }

  -- more is marked, and nothing else is found
  module _ (old new : MarksValue) (are : AreConsequences inputs lines trail base old) (found : FoundSame old new)
      (marked : (x : ℕ) → IsMarked old x → IsMarked new x) where
    found_kept : (x : ℕ) → IsKept old x → IsKept new x
    found_kept x h = (marked x h.0, outcome_same old new found x ∙ h.1)

    found_follow : (x : ℕ) → outcome_of old x ≡ Some true → outcome_of new x ≡ Some true
    found_follow x h = outcome_same old new found x ∙ h

    found_back : (x : ℕ) → outcome_of new x ≡ Some true → outcome_of old x ≡ Some true
    found_back x h = sym (outcome_same old new found x) ∙ h

    pub consequences_found : AreConsequences inputs lines trail base new
    consequences_found = consequences_stand old new are found.consequences marked found_kept found_follow found_back

    pub grows_marked : (end : ℕ) → ((x : ℕ) → IsMarked new x → IsMarked old x ⊎ StandsBelow trail base x)
        → ((e : ℕ) → AreWaiting trail e old → AreWaiting trail e new) → Grows inputs lines trail base end old new
    grows_marked end based waiting =
        grows_stand old new are found.consequences marked found_kept found_follow found_back end based (λ x. inl (outcome_same old new found x)) waiting

  pub grows_itself : (end : ℕ) (m : MarksValue) → AreConsequences inputs lines trail base m → Grows inputs lines trail base end m m
  grows_itself end m are = grows_marked m m are (record { stamp = refl; outcomes = refl; consequences = refl }) (λ x h. h) end (λ x h. inl h) (λ e h. h)

  pub grows_on : (end : ℕ) (a b c : MarksValue) → Grows inputs lines trail base end a b → Grows inputs lines trail base end b c
      → Grows inputs lines trail base end a c
  grows_on end a b c ab bc = record {
    consequences = bc.consequences;
    marked = λ x h. bc.marked x (ab.marked x h);
    based = λ x h. elim (bc.based x h) [ inl was ↦ ab.based x was | inr low ↦ inr low ];
    kept = λ x h. bc.kept x (ab.kept x h);
    follow = λ x h. bc.follow x (ab.follow x h);
    fresh = λ x. elim (bc.fresh x) [
      | inl same ↦ elim (ab.fresh x) [ inl before ↦ inl (same ∙ before) | inr low ↦ inr low ]
      | inr low ↦ inr low
    ];
    long = omega (arith, ab.long, bc.long);
    first = sym (take-take (length a.consequences) (length b.consequences) c.consequences ab.long)
        ∙ ap (λ (cs : List Consequence). take (length a.consequences) cs) bc.first ∙ ab.first;
    waiting = λ e h. bc.waiting e (ab.waiting e h);
  }

  -- letters below an end stand below each later one
  grows_below : (end more : ℕ) (a b : MarksValue) → end ≤ more → Grows inputs lines trail base end a b → Grows inputs lines trail base more a b
  grows_below end more a b fits ab = record {
    consequences = ab.consequences;
    marked = ab.marked;
    based = ab.based;
    kept = ab.kept;
    follow = ab.follow;
    fresh = λ x. elim (ab.fresh x) [ inl same ↦ inl same | inr low ↦ inr (stands_before trail end more x fits low) ];
    long = ab.long;
    first = ab.first;
    waiting = ab.waiting;
  }

  module _ (m : MarksValue) (letter end : ℕ) (are : AreConsequences inputs lines trail base m) (stands : StandsBelow trail end letter) where
    denied_cases : (x : ℕ) → (outcome_of (denied m letter) x ≡ outcome_of m x) ⊎ ((x ≡ letter) × (outcome_of (denied m letter) x ≡ Some false))
    denied_cases x = elim (cases_eq x letter) [
      | inl is ↦ elim (cases_lt letter (length m.outcomes)) [
        | inl low ↦ inr (is, subst (λ y. outcome_of (denied m letter) y ≡ Some false) (sym is) (outcome_denied m letter low))
        | inr high ↦ inl (rw (set_past m.outcomes letter m.stamp high) refl)
      ]
      | inr differ ↦ inl (outcome_other m letter m.stamp x differ)
    ]

    -- that the letter does not follow is found
    pub grows_denied : outcome_of m letter ≢ Some true → Grows inputs lines trail base end m (denied m letter)
    grows_denied not_true = grows_stand m (denied m letter) are refl (λ x h. h)
        (λ x h. elim (denied_cases x) [
          | inl same ↦ (h.0, same ∙ h.1)
          | inr here ↦ (h.0, here.1)
        ])
        (λ x h. elim (denied_cases x) [
          | inl same ↦ same ∙ h
          | inr here ↦ absurd (not_true (subst (λ y. outcome_of m y ≡ Some true) here.0 h))
        ])
        (λ x h. elim (denied_cases x) [
          | inl same ↦ sym same ∙ h
          | inr here ↦ absurd (true_not_false h here.1)
        ])
        end (λ x h. inl h)
        (λ x. elim (denied_cases x) [ inl same ↦ inl same | inr here ↦ inr (subst (λ y. StandsBelow trail end y) (sym here.0) stands) ]) (λ e h. h)

    module _ (reason : Hint) (unknown : outcome_of m letter ≡ None) (low_letter : letter < length m.outcomes) where
      concluded_cases : (x : ℕ) → (outcome_of (concluded m letter reason) x ≡ outcome_of m x) ⊎ (x ≡ letter)
      concluded_cases x = elim (cases_eq x letter) [
        | inl is ↦ inr is
        | inr differ ↦ inl (outcome_other m letter (m.stamp + 1) x differ)
      ]

      -- that the letter follows from what is given is found
      grows_concluded : (clause : List Literal) → HasReason trail base letter reason → named inputs lines reason ≡ Some clause
          → All (λ l. (l.letter.0 ≡ letter) ⊎ IsGiven trail base m l.letter.0) clause → Grows inputs lines trail base end m (concluded m letter reason)
      grows_concluded clause why is given =
          let n = length m.consequences in
          let last : Consequence = record { letter = letter; reason = reason } in
          let len : length (concluded m letter reason).consequences ≡ n + 1 = length_push m.consequences last in
          let first : take n (concluded m letter reason).consequences ≡ m.consequences =
          take-append-le n m.consequences (last ∷ []) (omega arith) ∙ take_all n m.consequences (omega arith) in
          let letter_is : letter_at (concluded m letter reason) n ≡ letter =
          ap (λ (c : Consequence). c.letter) (get_or_at m.consequences last [] no_consequence n refl) in
          let reason_is : reason_at (concluded m letter reason) n ≡ reason =
          ap (λ (c : Consequence). c.reason) (get_or_at m.consequences last [] no_consequence n refl) in
          let same = letter_same m (concluded m letter reason) first in
          let kept : (x : ℕ) → IsKept m x → IsKept (concluded m letter reason) x = λ x h. elim (concluded_cases x) [
            | inl still ↦ (h.0, still ∙ h.1)
            | inr here ↦ absurd (none_not_some unknown (subst (λ y. outcome_of m y ≡ Some false) here h.1))
          ] in
          let follow : (x : ℕ) → outcome_of m x ≡ Some true → outcome_of (concluded m letter reason) x ≡ Some true = λ x h. elim (concluded_cases x) [
            | inl still ↦ still ∙ h
            | inr here ↦ absurd (none_not_some unknown (subst (λ y. outcome_of m y ≡ Some true) here h))
          ] in
          let new : FollowsBy inputs lines trail base (concluded m letter reason) n letter reason = record {
            why = why;
            clause = clause;
            is = is;
            others = All-weaker (λ (l : Literal). (l.letter.0 ≡ letter) ⊎ IsGiven trail base m l.letter.0)
                (λ (l : Literal). (l.letter.0 ≡ letter) ⊎ IsGivenBy trail base (concluded m letter reason) n l.letter.0)
                (λ l h. elim h [
                  | inl itself ↦ inl itself
                  | inr g ↦ inr (elim g [
                    | inl k ↦ inl (kept l.letter.0 k)
                    | inr rest ↦ elim rest [
                      | inl follows ↦ let there = are.all l.letter.0 follows in inr (inl (there.0, there.1, same there.0 there.1 ∙ there.2))
                      | inr basic ↦ inr (inr (basic.0, basic.1))
                    ]
                  ])
                ]) clause given;
          } in
          record {
            consequences = record {
              each = λ i low. elim (cases_lt i n) [
                | inl below ↦ each_same m (concluded m letter reason) first kept (λ x h. h) are i below
                | inr above ↦
                    let i_is : n ≡ i = omega (arith, low, above, len) in
                    subst (λ j. FollowsBy inputs lines trail base (concluded m letter reason) j (letter_at (concluded m letter reason) j)
                    (reason_at (concluded m letter reason) j)) i_is
                    (rw (letter_is, reason_is) new)
              ];
              follow = λ i low. elim (cases_lt i n) [
                | inl below ↦ follow (letter_at (concluded m letter reason) i) (ap (λ (x : ℕ). outcome_of m x) (same i below) ∙ are.follow i below)
                | inr above ↦
                    let i_is : n ≡ i = omega (arith, low, above, len) in
                    subst (λ j. outcome_of (concluded m letter reason) (letter_at (concluded m letter reason) j) ≡ Some true) i_is
                    (ap (λ (x : ℕ). outcome_of (concluded m letter reason) x) letter_is ∙ outcome_concluded m letter reason low_letter)
              ];
              apart = λ i j below low e. elim (cases_lt j n) [
                | inl inside ↦ are.apart i j below inside (sym (same i (omega (arith, below, inside))) ∙ e ∙ same j inside)
                | inr above ↦
                    let j_is : j ≡ n = omega (arith, low, above, len) in
                    let i_low : i < n = omega (arith, below, j_is) in
                    let letter_of : letter_at m i ≡ letter =
                    sym (same i i_low) ∙ e ∙ ap (λ (k : ℕ). letter_at (concluded m letter reason) k) j_is ∙ letter_is in
                    none_not_some unknown (ap (λ (x : ℕ). outcome_of m x) (sym letter_of) ∙ are.follow i i_low)
              ];
              all = λ x h. elim (concluded_cases x) [
                | inl still ↦ let there = are.all x (sym still ∙ h) in (there.0, omega (arith, there.1, len), same there.0 there.1 ∙ there.2)
                | inr here ↦ (n, omega (arith, len), letter_is ∙ sym here)
              ];
            };
            marked = λ x h. h;
            based = λ x h. inl h;
            kept = kept;
            follow = follow;
            fresh = λ x. elim (concluded_cases x) [ inl still ↦ inl still | inr here ↦ inr (subst (λ y. StandsBelow trail end y) (sym here) stands) ];
            long = omega (arith, len);
            first = first;
            waiting = λ e h. h;
          }

  -- what was found behind the first n0 consequences is taken back
  module _ (end : ℕ) (m0 m1 m2 : MarksValue) (are : AreConsequences inputs lines trail base m0) (grows : Grows inputs lines trail base end m0 m1)
      (rest : m2 ≡ with_consequences (with_outcomes m1 m2.outcomes) (take (length m0.consequences) m1.consequences))
      (others : (x : ℕ) → (outcome_of m2 x ≡ outcome_of m1 x) ⊎ IsFrom m1 (length m0.consequences) x)
      (unknown : (x : ℕ) → IsFrom m1 (length m0.consequences) x → outcome_of m2 x ≢ Some true) where
    same_consequences : m2.consequences ≡ m0.consequences
    same_consequences = ap (λ (m : MarksValue). m.consequences) rest ∙ grows.first

    from_follows : (x : ℕ) → IsFrom m1 (length m0.consequences) x → outcome_of m1 x ≡ Some true
    from_follows x from = ap (λ (y : ℕ). outcome_of m1 y) (sym from.3) ∙ grows.consequences.follow from.0 from.2

    -- none of the letters that followed before is one of those that are taken back
    not_from : (x : ℕ) → outcome_of m0 x ≡ Some true → ¬ IsFrom m1 (length m0.consequences) x
    not_from x follows from =
        let there = are.all x follows in
        grows.consequences.apart there.0 from.0 (omega (arith, there.1, from.1)) from.2
        (letter_same m0 m1 grows.first there.0 there.1 ∙ there.2 ∙ sym from.3)

    taken_fresh : (x : ℕ) → (outcome_of m2 x ≡ outcome_of m0 x) ⊎ StandsBelow trail end x
    taken_fresh x = elim (others x) [
      | inl same ↦ elim (grows.fresh x) [ inl before ↦ inl (same ∙ before) | inr low ↦ inr low ]
      | inr from ↦ elim (grows.fresh x) [
        | inl before ↦ absurd (not_from x (sym before ∙ from_follows x from) from)
        | inr low ↦ inr low
      ]
    ]

    grows_taken : Grows inputs lines trail base end m0 m2
    grows_taken =
        let n = length m0.consequences in
        let same_marked : (x : ℕ) → IsMarked m1 x → IsMarked m2 x = λ x h. subst (λ (m : MarksValue). IsMarked m x) (sym rest) h in
        let marked_same : (x : ℕ) → IsMarked m2 x → IsMarked m1 x = λ x h. subst (λ (m : MarksValue). IsMarked m x) rest h in
        let marked : (x : ℕ) → IsMarked m0 x → IsMarked m2 x = λ x h. same_marked x (grows.marked x h) in
        grows_stand m0 m2 are same_consequences marked
        (λ x h.
        let mid = grows.kept x h in (
          marked x h.0,
          elim (others x) [
            | inl still ↦ still ∙ mid.1
            | inr from ↦ absurd (true_not_false (from_follows x from) mid.1)
          ],
        ))
        (λ x h. elim (others x) [
          | inl still ↦ still ∙ grows.follow x h
          | inr from ↦ absurd (not_from x h from)
        ])
        (λ x h. elim (others x) [
          | inl still ↦
              let there = grows.consequences.all x (sym still ∙ h) in
              elim (cases_lt there.0 n) [
                | inl below ↦ ap (λ (y : ℕ). outcome_of m0 y) (sym there.2 ∙ letter_same m0 m1 grows.first there.0 below) ∙ are.follow there.0 below
                | inr above ↦ absurd (unknown x (there.0, above, there.1, there.2) h)
              ]
          | inr from ↦ absurd (unknown x from h)
        ])
        end (λ x h. grows.based x (marked_same x h)) taken_fresh
        (λ e h j low inside is. subst (λ (w : List ℕ). IsWaiting w j) (sym (ap (λ (m : MarksValue). m.waiting) rest))
        (grows.waiting e h j low inside (marked_same _ is)))

  given_on : (end : ℕ) (old new : MarksValue) → Grows inputs lines trail base end old new → (x : ℕ) → IsGiven trail base old x → IsGiven trail base new x
  given_on end old new grows x given = elim given [
    | inl kept ↦ inl (grows.kept x kept)
    | inr rest ↦ elim rest [
      | inl follows ↦ inr (inl (grows.follow x follows))
      | inr basic ↦ inr (inr (grows.marked x basic.0, basic.1))
    ]
  ]

  module _ (values : List (Option Bool)) (letter : ℕ) (reason : Hint) (are_values : AreValues values trail) (is_trail : IsTrail inputs lines trail)
      (why : HasReason trail base letter reason) where
    -- the reason's other literals stand before the letter
    pub other_stands : (clause : List Literal) → named inputs lines reason ≡ Some clause → (i : ℕ) (d : Literal) → i < length clause
        → (get_or clause i d).letter.0 ≢ letter
        → (place : ℕ) → place < length trail → (literal_at trail place).letter.0 ≡ letter → StandsBelow trail place (get_or clause i d).letter.0
    other_stands clause is i d low differ place inside place_is =
        let entry = entry_reason inputs lines trail why.place reason is_trail why.inside why.reason_is in
        let others = subst (All (λ l. (l ≡ literal_at trail why.place) ⊎ Contains (literals_of (take why.place trail)) (opposite l)))
        (some_same entry.is is) entry.others in
        let same : why.place ≡ place = same_place values trail are_values why.place place why.inside inside (why.is ∙ sym place_is) in
        subst (λ (k : ℕ). StandsBelow trail k (get_or clause i d).letter.0) same (elim (others i d low) [
          | inl itself ↦ absurd (differ (ap (λ (l : Literal). l.letter.0) itself ∙ why.is))
          | inr before ↦
              let there = true_place trail why.place (opposite (get_or clause i d)) (omega (arith, why.inside)) before in
              (there.0, there.1, ap (λ (l : Literal). l.letter.0) there.2)
        ])

    pub reason_named : (clause : List Literal) × (named inputs lines reason ≡ Some clause)
    reason_named = let entry = entry_reason inputs lines trail why.place reason is_trail why.inside why.reason_is in (entry.clause, entry.is)

    pub given_more : (end : ℕ) (old new : MarksValue) (clause : List Literal) (i : ℕ) (d : Literal) → Grows inputs lines trail base end old new
        → i < length clause
        → All (λ l. (l.letter.0 ≡ letter) ⊎ IsGiven trail base old l.letter.0) (take i clause)
        → ((get_or clause i d).letter.0 ≡ letter) ⊎ IsGiven trail base new (get_or clause i d).letter.0
        → All (λ l. (l.letter.0 ≡ letter) ⊎ IsGiven trail base new l.letter.0) (take (i + 1) clause)
    given_more end old new clause i d grows low before here =
        All-more (λ (l : Literal). (l.letter.0 ≡ letter) ⊎ IsGiven trail base new l.letter.0) clause i d low
        (All-weaker (λ (l : Literal). (l.letter.0 ≡ letter) ⊎ IsGiven trail base old l.letter.0)
        (λ (l : Literal). (l.letter.0 ≡ letter) ⊎ IsGiven trail base new l.letter.0)
        (λ l h. elim h [ inl itself ↦ inl itself | inr given ↦ inr (given_on end old new grows l.letter.0 given) ]) (take i clause) before) here

    -- no letter stands below its own place
    own_apart : ¬ StandsBelow trail why.place letter
    own_apart stands = absurd (omega (arith, place_below values trail are_values why.place why.place letter why.inside why.is stands))

    still_unknown : (m0 m1 : MarksValue) → Grows inputs lines trail base why.place m0 m1 → outcome_of m0 letter ≡ None → outcome_of m1 letter ≡ None
    still_unknown m0 m1 grows unknown = elim (grows.fresh letter) [ inl same ↦ same ∙ unknown | inr stands ↦ absurd (own_apart stands) ]

    pub derived : (m0 m1 m3 : MarksValue) → Grows inputs lines trail base why.place m0 m1 → outcome_of m0 letter ≡ None → letter < length m1.outcomes
        → ((clause : List Literal) → named inputs lines reason ≡ Some clause → All (λ l. (l.letter.0 ≡ letter) ⊎ IsGiven trail base m1 l.letter.0) clause)
        → m3 ≡ concluded m1 letter reason → (end : ℕ) → StandsBelow trail end letter → Grows inputs lines trail base end m0 m3
    derived m0 m1 m3 grows unknown low given m3_is end stands =
        let below = place_below values trail are_values why.place end letter why.inside why.is stands in
        let named_is = reason_named in
        rw m3_is (grows_on end m0 m1 (concluded m1 letter reason) (grows_below why.place end m0 m1 (omega (arith, below)) grows)
        (grows_concluded m1 letter end grows.consequences stands reason (still_unknown m0 m1 grows unknown) low named_is.0 why named_is.1
        (given named_is.0 named_is.1)))

    pub not_derived : (m0 m1 m2 m3 : MarksValue) (count : ℕ) → AreConsequences inputs lines trail base m0 → Grows inputs lines trail base why.place m0 m1
        → outcome_of m0 letter ≡ None
        → count ≡ length m0.consequences
        → m2 ≡ with_consequences (with_outcomes m1 m2.outcomes) (take count m1.consequences)
        → ((x : ℕ) → (outcome_of m2 x ≡ outcome_of m1 x) ⊎ IsFrom m1 count x)
        → ((x : ℕ) → IsFrom m1 count x → outcome_of m2 x ≢ Some true)
        → m3 ≡ denied m2 letter → (end : ℕ) → StandsBelow trail end letter → Grows inputs lines trail base end m0 m3
    not_derived m0 m1 m2 m3 count are grows unknown count_is rest others gone m3_is end stands =
        let below = place_below values trail are_values why.place end letter why.inside why.is stands in
        let taken = grows_taken why.place m0 m1 m2 are grows
        (subst (λ (n : ℕ). m2 ≡ with_consequences (with_outcomes m1 m2.outcomes) (take n m1.consequences)) count_is rest)
        (subst (λ (n : ℕ). (x : ℕ) → (outcome_of m2 x ≡ outcome_of m1 x) ⊎ IsFrom m1 n x) count_is others)
        (subst (λ (n : ℕ). (x : ℕ) → IsFrom m1 n x → outcome_of m2 x ≢ Some true) count_is gone) in
        rw m3_is (grows_on end m0 m2 (denied m2 letter) (grows_below why.place end m0 m2 (omega (arith, below)) taken)
        (grows_denied m2 letter end taken.consequences stands (λ e. none_not_some (still_unknown m0 m2 taken unknown) e)))
