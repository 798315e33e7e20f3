-- A clause without what follows from the rest is explained too: the reasons by which that follows are further hints.
use Rattle.std.proofs.Common.{◌≡◌, ℕ, zero, suc, ◌<◌, ◌≤◌, ◌+◌, ◌-◌, ◌^◌, ◌⊎◌, inl, inr, List, [], ◌∷◌, ◌++◌, Bool, true, false, Option, Some, map, take}
use Rattle.std.proofs.Common.{reverse, All, AllPairs, Contains, length, get_or, refl, sym, ap, ◌∙◌, subst, arith}
use Rattle.std.specs.List.{AllPairs}
use Rattle.std.proofs.lemmas.Bool.{cases_lt, cases_eq}
use Rattle.std.proofs.lemmas.List.{map-append, reverse-append, reverse-reverse, get_or-map, length-map, length-append, get_or_append_left, get_or-append_right}
use Rattle.std.proofs.lemmas.List.{get_or_at, length_push, append_assoc, append-nil}
use Rattle.std.proofs.lemmas.List.Elements.{All-append, All-contains, Contains-append_left, Contains-append_right, Contains-append_cases, Contains-get_or}
use Rattle.cnf_base.specs.declared.literal.Literal.{Literal}
use Rattle.cnf_base.specs.declared.literal.Hint.{Hint}
use Rattle.cnf_base.specs.Literal.{opposite}
use Rattle.cnf_base.specs.Step.{propagate, IsUnit, Refutes}
use Rattle.cnf_base.proofs.SameLiteral.{opposite_opposite}
use Rattle.clause_log.specs.LogValue.{greatest_u32}
use Rattle.cdcl_trail.specs.Trail.{literals_of, IsTrail, IsReason, AreValues, literal_at, IsInside}
use Rattle.cdcl_trail.specs.Values.{IsBelow, AreBelow}
use Rattle.cdcl_trail.specs.declared.assigned.TrailEntry.{TrailEntry}
use Rattle.cdcl_trail.proofs.Standing.{reason_at as reason_of, true_place, places_apart}
use Rattle.cdcl_trail.proofs.Bridge.{named_has}
use Rattle.cdcl_analyze.specs.Analysis.{IsUnder, Covers, IsWalk}
use Rattle.cdcl_analyze.specs.Marks.{MarksValue, IsMarked, outcome_of, letter_at, reason_at, no_consequence}
use Rattle.cdcl_analyze.specs.Consequences.{IsGivenBy, FollowsBy, IsRest}
use Rattle.cdcl_analyze.specs.declared.marks.Consequence.{Consequence}
use Rattle.cdcl_analyze.proofs.Walk.{Contains_cons, Contains_head, Contains_map, within_u32}
use Rattle.cdcl_analyze.proofs.Outcomes.{some_same, true_not_false}
use Rattle.cdcl_analyze.proofs.Places.{same_place, place_below}

Contains_cons_cases : {X : Type 0} (x : X) (xs : List X) (y : X) → Contains (x ∷ xs) y → (x ≡ y) ⊎ Contains xs y
Contains_cons_cases x xs y (zero, below, is) = inl is
Contains_cons_cases x xs y (suc k, below, is) = inr (k, omega (arith, below), is)

Contains_mapped : {X Y : Type 0} (f : X → Y) (xs : List X) (x : X) → Contains xs x → Contains (map f xs) (f x)
Contains_mapped f xs x (k, below, is) = (k, omega (arith, below, length-map xs f), get_or-map f xs k x (f x) below ∙ ap f is)

-- places that fall, and then lower ones that fall
pub falling_append : (xs ys : List ℕ) (from : ℕ) → AllPairs (λ p q. q < p) xs → AllPairs (λ p q. q < p) ys → All (λ p. from ≤ p) xs → All (λ p. p < from) ys
    → AllPairs (λ p q. q < p) (xs ++ ys)
falling_append xs ys from of_xs of_ys high low i j d earlier below = elim (cases_lt j (length xs)) [
  | inl j_left ↦ rw (get_or_append_left xs ys d i (omega arith), get_or_append_left xs ys d j j_left) (of_xs i j d earlier j_left)
  | inr j_right ↦
      let j_low : j - length xs < length ys = omega (arith, below, length-append xs ys) in
      elim (cases_lt i (length xs)) [
        | inl i_left ↦
            rw (get_or_append_left xs ys d i i_left, get_or-append_right xs ys (length xs) j d refl j_right)
            (omega (arith, high i d i_left, low (j - length xs) d j_low))
        | inr i_right ↦
            rw (get_or-append_right xs ys (length xs) i d refl i_right, get_or-append_right xs ys (length xs) j d refl j_right)
            (of_ys (i - length xs) (j - length xs) d (omega arith) j_low)
      ]
]

-- the literal is the opposite of the one whose letter is among the first i that follow
record HasCome (trail : List TrailEntry) (m : MarksValue) (i : ℕ) (l : Literal) : Type 0 where
  index : ℕ
  low : index < i
  place : ℕ
  inside : place < length trail
  letter_is : (literal_at trail place).letter.0 ≡ letter_at m index
  is : l ≡ opposite (literal_at trail place)

-- the false literals are those of the beginning and the opposites of the literals whose letters are the first i that follow
record Reached (trail : List TrailEntry) (m : MarksValue) (falses more : List Literal) (i : ℕ) : Type 0 where
  first : (l : Literal) → Contains falses l → Contains more l
  done : (j q : ℕ) → j < i → q < length trail → (literal_at trail q).letter.0 ≡ letter_at m j → Contains more (opposite (literal_at trail q))
  only : (l : Literal) → Contains more l → Contains falses l ⊎ HasCome trail m i l

module _ (trail : List TrailEntry) (values : List (Option Bool)) (are : AreValues values trail) where
  reached_next : (m : MarksValue) (falses more : List Literal) (i p : ℕ) → p < length trail → (literal_at trail p).letter.0 ≡ letter_at m i
      → Reached trail m falses more i
      → Reached trail m falses (opposite (literal_at trail p) ∷ more) (i + 1)
  reached_next m falses more i p inside is reached =
      let u = opposite (literal_at trail p) in
      record {
        first = λ l there. Contains_cons u l more (reached.first l there);
        done = λ j q low q_in same. elim (cases_eq j i) [
          | inl e ↦
              let here : q ≡ p = same_place values trail are q p q_in inside (same ∙ ap (letter_at m) e ∙ sym is) in
              rw here (Contains_head u more)
          | inr differ ↦ Contains_cons u (opposite (literal_at trail q)) more (reached.done j q (omega (arith, low, differ)) q_in same)
        ];
        only = λ l there. elim (Contains_cons_cases u more l there) [
          | inl e ↦ inr (record { index = i; low = omega arith; place = p; inside = inside; letter_is = is; is = sym e })
          | inr h ↦ elim (reached.only l h) [
            | inl f ↦ inl f
            | inr c ↦ inr (record { index = c.index; low = omega (arith, c.low); place = c.place; inside = c.inside; letter_is = c.letter_is; is = c.is })
          ]
        ];
      }

module _ (inputs lines : List (List Literal)) (trail : List TrailEntry) (values : List (Option Bool)) (letters base from : ℕ) (old new : MarksValue)
    (clause : List Literal) (hints : List Hint) (places : List ℕ) (more : List Literal) (next : List ℕ)
    (is_trail : IsTrail inputs lines trail) (are : AreValues values trail) (known_inputs : AreBelow letters inputs) (known_lines : AreBelow letters lines)
    (few : letters ≤ 2 ^ 32) (fits : base ≤ from)
    (walk : IsWalk inputs lines trail from (IsMarked old) clause hints places)
    (rest : IsRest inputs lines trail base from base old new clause places more next) where
  abbrev letter_of : ℕ → ℕ
  letter_of p = (literal_at trail p).letter.0

  clause_more : (l : Literal) → Contains clause l → Contains more l
  clause_more l there =
      subst (λ c. Contains c l) (sym rest.clause_is) (Contains-append_left clause (map (λ p. opposite (literal_at trail p)) rest.added) l there)

  added_more : (q : ℕ) → Contains rest.added q → Contains more (opposite (literal_at trail q))
  added_more q there =
      subst (λ c. Contains c (opposite (literal_at trail q))) (sym rest.clause_is)
      (Contains-append_right clause (map (λ p. opposite (literal_at trail p)) rest.added) (opposite (literal_at trail q))
      (Contains_mapped (λ p. opposite (literal_at trail p)) rest.added q there))

  more_cases : (l : Literal) → Contains more l → Contains clause l ⊎ ((q : ℕ) × Contains rest.added q × (l ≡ opposite (literal_at trail q)))
  more_cases l there =
      elim (Contains-append_cases clause (map (λ p. opposite (literal_at trail p)) rest.added) l (subst (λ c. Contains c l) rest.clause_is there)) [
        | inl c ↦ inl c
        | inr a ↦ inr (Contains_map (λ p. opposite (literal_at trail p)) 0 rest.added l a)
      ]

  clause_place : (l : Literal) → Contains clause l → (q : ℕ) × (from ≤ q) × (q < length trail) × (l ≡ opposite (literal_at trail q))
  clause_place l there =
      let q = Contains_map (λ p. opposite (literal_at trail p)) 0 places l (subst (λ c. Contains c l) walk.clause_is there) in
      (q.0, All-contains (λ p. from ≤ p) places q.0 walk.above q.1, All-contains (IsInside trail) places q.0 walk.inside q.1, q.2)

  added_is : (q : ℕ) → Contains rest.added q → (base ≤ q) × (q < from) × (outcome_of new (letter_of q) ≡ Some false)
  added_is q there = All-contains (λ p. (base ≤ p) × (p < from) × (outcome_of new (letter_of p) ≡ Some false)) rest.added q rest.inside there

  abbrev count : ℕ
  count = length new.consequences

  -- what follows stands below `from`
  below_from : (i p : ℕ) → i < count → p < length trail → letter_of p ≡ letter_at new i → p < from
  below_from i p low inside is = place_below values trail are p from (letter_at new i) inside is (rest.under (letter_at new i) (rest.consequences.follow i low))

  module _ (falses : List Literal) (covers : Covers trail base (IsMarked new) more falses) where
    more_false : (l : Literal) → Contains more l → Contains falses l
    more_false l there = All-contains (Contains falses) more l covers.clause_in there

    -- what is marked and does not follow is false
    marked_false : (q : ℕ) → q < from → IsMarked new (letter_of q)
        → (outcome_of new (letter_of q) ≡ Some true → Contains falses (opposite (literal_at trail q))) → Contains falses (opposite (literal_at trail q))
    marked_false q low marked follows = elim (cases_lt q base) [
      | inl under ↦ covers.marked_in q under marked
      | inr over ↦ elim (rest.settled q over low marked) [
        | inl is ↦ follows is
        | inr there ↦ more_false (opposite (literal_at trail q)) (added_more q there)
      ]
    ]

    module _ (i : ℕ) (low : i < count) (now : List Literal) (reached : Reached trail new falses now i) where
      abbrev this : FollowsBy inputs lines trail base new i (letter_at new i) (reason_at new i)
      this = rest.consequences.each i low

      abbrev p : ℕ
      p = this.why.place

      p_low : p < from
      p_low = below_from i p low this.why.inside this.why.is

      apart_from_p : (q : ℕ) → q < length trail → ¬ (q ≡ p) → ¬ (letter_of q ≡ letter_at new i)
      apart_from_p q inside differ same = places_apart values trail are q p inside this.why.inside differ (same ∙ sym this.why.is)

      -- no literal of the letter is false yet
      foreign : (l : Literal) → l.letter.0 ≡ letter_at new i → ¬ Contains now l
      foreign l same there = elim (reached.only l there) [
        | inl f ↦ elim (All-contains (λ m. Contains more m ⊎ IsUnder trail base m) falses l covers.only f) [
          | inl c ↦ elim (more_cases l c) [
            | inl old_one ↦
                let q = clause_place l old_one in
                apart_from_p q.0 q.2 (λ e. omega (arith, e, q.1, p_low)) (sym (ap (λ (n : Literal). n.letter.0) q.3) ∙ same)
            | inr (q, new_one, is) ↦
                let letter : letter_of q ≡ letter_at new i = sym (ap (λ (n : Literal). n.letter.0) is) ∙ same in
                true_not_false (ap (outcome_of new) letter ∙ rest.consequences.follow i low) (added_is q new_one).2
          ]
          | inr b ↦
              apart_from_p b.0 (omega (arith, b.1, this.why.high, this.why.inside)) (λ e. omega (arith, e, b.1, this.why.high))
              (sym (ap (λ (n : Literal). n.letter.0) b.2) ∙ same)
        ]
        | inr c ↦
            rest.consequences.apart c.index i c.low low (sym c.letter_is ∙ sym (ap (λ (n : Literal). n.letter.0) c.is) ∙ same)
      ]

      -- what is given stands before, and so its literal is false
      given_false : (l : Literal) → IsGivenBy trail base new i l.letter.0 → (q : ℕ) → q < p → literal_at trail q ≡ opposite l → Contains now l
      given_false l given q before is =
          let letter : letter_of q ≡ l.letter.0 = ap (λ (n : Literal). n.letter.0) is in
          let q_in : q < length trail = omega (arith, before, this.why.inside) in
          let back : opposite (literal_at trail q) ≡ l = ap opposite is ∙ opposite_opposite l in
          subst (Contains now) back (elim given [
            | inl kept ↦
                reached.first _ (marked_false q (omega (arith, before, p_low)) (subst (IsMarked new) (sym letter) kept.0)
                (λ e. absurd (true_not_false (sym (ap (outcome_of new) letter) ∙ e) kept.1)))
            | inr (inl among) ↦ reached.done among.0 q among.1 q_in (letter ∙ sym among.2)
            | inr (inr basic) ↦
                reached.first _
                (covers.marked_in q (place_below values trail are q base l.letter.0 q_in letter basic.1) (subst (IsMarked new) (sym letter) basic.0))
          ])

      reason : IsReason inputs lines (literals_of (take p trail)) (literal_at trail p) (reason_at new i)
      reason = reason_of inputs lines trail p (reason_at new i) is_trail this.why.inside this.why.reason_is

      unit : IsUnit now reason.clause (literal_at trail p)
      unit = record {
        there = reason.there;
        not_false = foreign (literal_at trail p) this.why.is;
        not_true = foreign (opposite (literal_at trail p)) this.why.is;
        others = λ k d below.
            let l = get_or reason.clause k d in
            elim (reason.others k d below) [
              | inl is ↦ inr is
              | inr there ↦
                  let at = true_place trail p (opposite l) (omega (arith, this.why.inside)) there in
                  let same : this.clause ≡ reason.clause = some_same this.is reason.is in
                  inl (elim (subst (All (λ m. (m.letter.0 ≡ letter_at new i) ⊎ IsGivenBy trail base new i m.letter.0)) same this.others k d below) [
                    | inl own ↦
                        absurd
                        (apart_from_p at.0 (omega (arith, at.1, this.why.inside)) (λ e. omega (arith, e, at.1)) (ap (λ (n : Literal). n.letter.0) at.2 ∙ own))
                    | inr given ↦ given_false l given at.0 at.1 at.2
                  ])
            ];
      }

      step : (after : List Hint) → ((now_more : List Literal) → Reached trail new falses now_more (i + 1) → Refutes inputs lines greatest_u32 now_more after)
          → Refutes inputs lines greatest_u32 now (reason_at new i ∷ after)
      step after go =
          let known = named_has (All (IsBelow letters)) inputs lines (reason_at new i) reason.clause known_inputs known_lines reason.is in
          propagate {clause = reason.clause} {u = literal_at trail p} (record {
            is = reason.is;
            within = λ _ _. within_u32 letters reason.clause few known;
          }) unit
          (go (opposite (literal_at trail p) ∷ now) (reached_next trail values are new falses now i p this.why.inside this.why.is reached))

    -- once all that follows is false, the walk goes on
    covers_all : (now : List Literal) → Reached trail new falses now count → Covers trail from (IsMarked old) clause now
    covers_all now reached = record {
      marked_in = λ j low marked. elim (cases_lt j base) [
        | inl under ↦ reached.first _ (covers.marked_in j under (rest.marked _ marked))
        | inr over ↦ elim (rest.settled j over low (rest.marked _ marked)) [
          | inl is ↦ let among = rest.consequences.all _ is in reached.done among.0 j among.1 (omega (arith, low, walk.within)) (sym among.2)
          | inr there ↦ reached.first _ (more_false _ (added_more j there))
        ]
      ];
      clause_in = λ k d below. let l = get_or clause k d in reached.first l (more_false l (clause_more l (Contains-get_or clause k d below)));
      only = λ k d below.
          let l = get_or now k d in
          elim (reached.only l (Contains-get_or now k d below)) [
            | inl f ↦ elim (All-contains (λ m. Contains more m ⊎ IsUnder trail base m) falses l covers.only f) [
              | inl c ↦ elim (more_cases l c) [ inl old_one ↦ inl old_one | inr (q, new_one, is) ↦ inr (q, (added_is q new_one).1, is) ]
              | inr b ↦ inr (b.0, omega (arith, b.1, fits), b.2)
            ]
            | inr c ↦ inr (c.place, below_from c.index c.place c.low c.inside c.letter_is, c.is)
          ];
    }

    -- the reasons of what is left lead on
    steps : (left gone : List Consequence) → gone ++ left ≡ new.consequences → (now : List Literal) → Reached trail new falses now (length gone)
        → Refutes inputs lines greatest_u32 now (map (λ c. c.reason) left ++ reverse hints)
    steps [] gone is now reached =
        let whole : length gone ≡ count = ap length (sym (append-nil gone) ∙ is) in
        walk.explains now (covers_all now (subst (Reached trail new falses now) whole reached))
    steps (s ∷ left) gone is now reached =
        let i = length gone in
        let low : i < count = omega (arith, ap length is, length-append gone (s ∷ left)) in
        let here : get_or new.consequences i no_consequence ≡ s =
        subst (λ cs. get_or cs i no_consequence ≡ s) is (get_or_at gone s left no_consequence i refl) in
        let split : (gone ++ s ∷ []) ++ left ≡ new.consequences = append_assoc gone (s ∷ []) left ∙ is in
        let longer : i + 1 ≡ length (gone ++ s ∷ []) = sym (length_push gone s) in
        subst (λ (c : Consequence). Refutes inputs lines greatest_u32 now (c.reason ∷ (map (λ (e : Consequence). e.reason) left ++ reverse hints))) here
        (step i low now reached (map (λ (e : Consequence). e.reason) left ++ reverse hints)
        (λ now_more r. steps left (gone ++ s ∷ []) split now_more (subst (Reached trail new falses now_more) longer r)))

    explained : Refutes inputs lines greatest_u32 falses (map (λ c. c.reason) new.consequences ++ reverse hints)
    explained =
        steps new.consequences [] refl falses (record { first = λ l h. h; done = λ j q low q_in same. absurd (omega (arith, low)); only = λ l h. inl h })

  -- the walk goes on at the base, with the reasons of what follows behind the hints
  walk_rest : IsWalk inputs lines trail base (IsMarked new) more (hints ++ reverse (map (λ c. c.reason) new.consequences)) next
  walk_rest = record {
    explains = λ falses covers.
        let reasons = map (λ (c : Consequence). c.reason) new.consequences in
        let turned : reverse (hints ++ reverse reasons) ≡ reasons ++ reverse hints =
        reverse-append hints (reverse reasons) ∙ ap (λ rs. rs ++ reverse hints) (reverse-reverse reasons) in
        subst (Refutes inputs lines greatest_u32 falses) (sym turned) (explained falses covers);
    clause_is =
        rest.clause_is ∙ ap (λ c. c ++ map (λ p. opposite (literal_at trail p)) rest.added) walk.clause_is
        ∙ sym (map-append (λ p. opposite (literal_at trail p)) places rest.added) ∙ ap (map (λ p. opposite (literal_at trail p))) (sym rest.places_is);
    inside = rw rest.places_is (All-append (IsInside trail) places rest.added walk.inside (λ k d below. omega (arith, (rest.inside k d below).1, walk.within)));
    above = rw rest.places_is
        (All-append (λ p. base ≤ p) places rest.added (λ k d below. omega (arith, walk.above k d below, fits)) (λ k d below. (rest.inside k d below).0));
    falling = rw rest.places_is (falling_append places rest.added from walk.falling rest.falling walk.above (λ k d below. (rest.inside k d below).1));
    within = omega (arith, walk.within, fits);
  }

  -- the same of lists that are equal to these
  pub walk_cited : (clause_now : List Literal) (hints_kept hints_now : List Hint) (places_now : List ℕ) (consequences : List Consequence)
      → clause_now ≡ more → places_now ≡ next → hints_kept ≡ hints → consequences ≡ new.consequences
      → hints_now ≡ hints_kept ++ reverse (map (λ c. c.reason) consequences) → IsWalk inputs lines trail base (IsMarked new) clause_now hints_now places_now
  walk_cited clause_now hints_kept hints_now places_now consequences clause_same places_same hints_same consequences_same cited =
      rw (clause_same, places_same, cited, hints_same, consequences_same) walk_rest
