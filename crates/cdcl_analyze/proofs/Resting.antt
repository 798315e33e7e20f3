-- The steps of the walk that keeps in a clause what does not follow from the rest of it.
use Rattle.std.proofs.Common.{◌≡◌, ℕ, ◌<◌, ◌≤◌, ◌+◌, ◌⊎◌, ◌↔◌, inl, inr, List, [], ◌∷◌, ◌++◌, Bool, true, false, Option, Some, None, map, Contains, length}
use Rattle.std.proofs.Common.{get_or, refl, sym, ap, ◌∙◌, subst, arith}
use Rattle.std.proofs.lemmas.Bool.{cases_lt, cases_eq}
use Rattle.std.proofs.lemmas.List.{map-append, append_assoc, append-nil, get_or_default}
use Rattle.std.proofs.lemmas.List.Elements.{All-nil, All-push, All-weaker, Contains-append_left, Contains-push}
use Rattle.cnf_base.specs.declared.literal.Literal.{Literal}
use Rattle.cnf_base.specs.Literal.{opposite}
use Rattle.cdcl_trail.specs.Trail.{AreValues, blank_entry, literal_at}
use Rattle.cdcl_trail.specs.declared.assigned.TrailEntry.{TrailEntry}
use Rattle.cdcl_analyze.specs.Analysis.{AreWaiting}
use Rattle.cdcl_analyze.specs.Waiting.{IsWaiting, IsNext}
use Rattle.cdcl_analyze.specs.Marks.{MarksValue, IsMarked, outcome_of, FoundSame}
use Rattle.cdcl_analyze.specs.Consequences.{StandsBelow, Grows, IsRest}
use Rattle.cdcl_analyze.proofs.Outcomes.{none_not_some, denied, outcome_denied, outcome_same}
use Rattle.cdcl_analyze.proofs.Places.{same_place, place_below}
use Rattle.cdcl_analyze.proofs.Growth.{consequences_found, grows_denied}
use Rattle.cdcl_analyze.proofs.Minimal.{falling_append}
use Rattle.cdcl_analyze.proofs.Steps.{still_waiting}

module _ (inputs lines : List (List Literal)) (trail : List TrailEntry) (values : List (Option Bool)) (base from : ℕ) (old : MarksValue) (clause : List Literal)
    (places : List ℕ) (are : AreValues values trail) (inside : from ≤ length trail) where
  abbrev letter_of : ℕ → ℕ
  letter_of p = (literal_at trail p).letter.0

  abbrev opposite_of : ℕ → Literal
  opposite_of p = opposite (literal_at trail p)

  -- at the beginning nothing follows and nothing is kept
  pub rest_start : ((x : ℕ) → outcome_of old x ≡ None) → old.consequences ≡ [] → IsRest inputs lines trail base from from old old clause places clause places
  rest_start unasked none =
      let empty : length old.consequences ≡ 0 = ap length none in
      record {
        consequences = record {
          each = λ i low. absurd (omega (arith, low, empty));
          follow = λ i low. absurd (omega (arith, low, empty));
          apart = λ i j earlier low e. absurd (omega (arith, low, empty));
          all = λ x e. absurd (none_not_some (unasked x) e);
        };
        marked = λ x h. h;
        under = λ x e. absurd (none_not_some (unasked x) e);
        added = [];
        places_is = sym (append-nil places);
        clause_is = sym (append-nil clause);
        inside = All-nil (λ p. (from ≤ p) × (p < from) × (outcome_of old (letter_of p) ≡ Some false));
        falling = λ i j d earlier low. absurd (omega (arith, low));
        settled = λ j high low. absurd (omega (arith, high, low));
      }

  module _ (more : List Literal) (next : List ℕ) where
    -- what was found is the same, and no more is marked from the base on; from k up to the end nothing is marked
    rest_same : (end k : ℕ) (m n : MarksValue) → base ≤ k → k ≤ end → FoundSame m n → ((x : ℕ) → IsMarked m x → IsMarked n x)
        → ((x : ℕ) → IsMarked n x → IsMarked m x ⊎ StandsBelow trail base x)
        → ((j : ℕ) → k ≤ j → j < end → ¬ IsMarked m (letter_of j)) → IsRest inputs lines trail base from end old m clause places more next
        → IsRest inputs lines trail base from k old n clause places more next
    rest_same end k m n high fits found marked based free rest =
        let same = outcome_same m n found in
        record {
          consequences = consequences_found inputs lines trail base m n rest.consequences found marked;
          marked = λ x h. marked x (rest.marked x h);
          under = λ x e. rest.under x (sym (same x) ∙ e);
          added = rest.added;
          places_is = rest.places_is;
          clause_is = rest.clause_is;
          inside = All-weaker (λ p. (end ≤ p) × (p < from) × (outcome_of m (letter_of p) ≡ Some false))
              (λ p. (k ≤ p) × (p < from) × (outcome_of n (letter_of p) ≡ Some false))
              (λ p h. (omega (arith, h.0, fits), h.1, same (letter_of p) ∙ h.2)) rest.added rest.inside;
          falling = rest.falling;
          settled = λ j from_k low is. elim (based (letter_of j) is) [
            | inl was ↦ elim (cases_lt j end) [
              | inl under ↦ absurd (free j from_k under was)
              | inr over ↦ elim (rest.settled j over low was) [ inl e ↦ inl (same (letter_of j) ∙ e) | inr c ↦ inr c ]
            ]
            | inr b ↦ absurd (omega (arith, place_below values trail are j base (letter_of j) (omega (arith, low, inside)) refl b, high, from_k))
          ];
        }

    module _ (place : ℕ) (m : MarksValue) (low : place < from) (high : base ≤ place)
        (rest : IsRest inputs lines trail base from (place + 1) old m clause places more next) where
      -- more is found out of letters up to the place
      rest_settled : (n : MarksValue) → Grows inputs lines trail base (place + 1) m n
          → IsRest inputs lines trail base from (place + 1) old n clause places more next
      rest_settled n grows = record {
        consequences = grows.consequences;
        marked = λ x h. grows.marked x (rest.marked x h);
        under = λ x e. elim (grows.fresh x) [
          | inl same ↦ rest.under x (sym same ∙ e)
          | inr b ↦ (b.0, omega (arith, b.1, low), b.2)
        ];
        added = rest.added;
        places_is = rest.places_is;
        clause_is = rest.clause_is;
        inside = All-weaker (λ p. (place + 1 ≤ p) × (p < from) × (outcome_of m (letter_of p) ≡ Some false))
            (λ p. (place + 1 ≤ p) × (p < from) × (outcome_of n (letter_of p) ≡ Some false))
            (λ p h. (
              h.0,
              h.1,
              elim (grows.fresh (letter_of p)) [
                | inl same ↦ same ∙ h.2
                | inr b ↦ absurd (omega (arith, place_below values trail are p (place + 1) (letter_of p) (omega (arith, h.1, inside)) refl b, h.0))
              ],
            )) rest.added rest.inside;
        falling = rest.falling;
        settled = λ j from_here under is. elim (grows.based (letter_of j) is) [
          | inl was ↦ elim (rest.settled j from_here under was) [ inl e ↦ inl (grows.follow (letter_of j) e) | inr c ↦ inr c ]
          | inr b ↦ absurd (omega (arith, place_below values trail are j base (letter_of j) (omega (arith, under, inside)) refl b, high, from_here))
        ];
      }

      -- what stands at the place follows
      rest_follows : outcome_of m (letter_of place) ≡ Some true → IsRest inputs lines trail base from place old m clause places more next
      rest_follows follows = record {
        consequences = rest.consequences;
        marked = rest.marked;
        under = rest.under;
        added = rest.added;
        places_is = rest.places_is;
        clause_is = rest.clause_is;
        inside = All-weaker (λ p. (place + 1 ≤ p) × (p < from) × (outcome_of m (letter_of p) ≡ Some false))
            (λ p. (place ≤ p) × (p < from) × (outcome_of m (letter_of p) ≡ Some false))
            (λ p h. (omega (arith, h.0), h.1, h.2)) rest.added rest.inside;
        falling = rest.falling;
        settled = λ j from_here under is. elim (cases_eq j place) [
          | inl e ↦ inl (ap (λ p. outcome_of m (letter_of p)) e ∙ follows)
          | inr differ ↦ rest.settled j (omega (arith, from_here, differ)) under is
        ];
      }

      -- what stands at the place does not follow, and is kept
      rest_kept : (n : MarksValue) (grown : List Literal) (longer : List ℕ) → length values ≤ length m.outcomes → ¬ (outcome_of m (letter_of place) ≡ Some true)
          → n ≡ denied m (letter_of place)
          → grown ≡ more ++ opposite_of place ∷ [] → longer ≡ next ++ place ∷ [] → IsRest inputs lines trail base from place old n clause places grown longer
      rest_kept n grown longer many not_follows n_is grown_is longer_is =
          let letter = letter_of place in
          let d = denied m letter in
          let now = rest_settled d (grows_denied inputs lines trail base m letter (place + 1) rest.consequences (place, omega arith, refl) not_follows) in
          let out : outcome_of d letter ≡ Some false =
          outcome_denied m letter (omega (arith, are.known place blank_entry (omega (arith, low, inside)), many)) in
          subst (λ v. IsRest inputs lines trail base from place old v clause places grown longer) (sym n_is) (record {
            consequences = now.consequences;
            marked = now.marked;
            under = now.under;
            added = now.added ++ place ∷ [];
            places_is = longer_is ∙ ap (λ ps. ps ++ place ∷ []) now.places_is ∙ append_assoc places now.added (place ∷ []);
            clause_is = grown_is ∙ ap (λ c. c ++ opposite_of place ∷ []) now.clause_is
                ∙ append_assoc clause (map (λ p. opposite (literal_at trail p)) now.added) (opposite_of place ∷ [])
                ∙ ap (λ c. clause ++ c) (sym (map-append (λ p. opposite (literal_at trail p)) now.added (place ∷ [])));
            inside = All-push (λ p. (place ≤ p) × (p < from) × (outcome_of d (letter_of p) ≡ Some false)) now.added place
                (All-weaker (λ p. (place + 1 ≤ p) × (p < from) × (outcome_of d (letter_of p) ≡ Some false))
                (λ p. (place ≤ p) × (p < from) × (outcome_of d (letter_of p) ≡ Some false))
                (λ p h. (omega (arith, h.0), h.1, h.2)) now.added now.inside)
                (omega arith, low, out);
            falling = falling_append now.added (place ∷ []) (place + 1) now.falling (λ i j e earlier under. absurd (omega (arith, earlier, under)))
                (λ i e under. (now.inside i e under).0) (All-push (λ p. p < place + 1) [] place (All-nil (λ p. p < place + 1)) (omega arith));
            settled = λ j from_here under is. elim (cases_eq j place) [
              | inl e ↦ inr (subst (Contains (now.added ++ place ∷ [])) (sym e) (Contains-push now.added place))
              | inr differ ↦ elim (now.settled j (omega (arith, from_here, differ)) under is) [
                | inl e ↦ inl e
                | inr c ↦ inr (Contains-append_left now.added (place ∷ []) j c)
              ]
            ];
          })

    -- the next place that waits is taken out
    module _ (end : ℕ) (m popped : MarksValue) (fits : end ≤ from) (waits : AreWaiting trail end m) (same : (x : ℕ) → IsMarked popped x ↔ IsMarked m x)
        (found : FoundSame m popped)
        (rest : IsRest inputs lines trail base from end old m clause places more next) where
      -- nothing waits
      pub rest_ended : base ≤ end → ((p : ℕ) → p < end → ¬ IsWaiting m.waiting p) → IsRest inputs lines trail base from base old popped clause places more next
      rest_ended high none =
          rest_same end base m popped (omega arith) high found (λ x h. (same x).1 h) (λ x h. inl ((same x).0 h))
          (λ j high low is. none j low (waits j low (omega (arith, low, fits, inside)) is)) rest

      module _ (place : ℕ) (e : TrailEntry) (is_next : IsNext m.waiting popped.waiting end place) (is : e ≡ get_or trail place e) where
        entry_is : e ≡ get_or trail place blank_entry
        entry_is = is ∙ get_or_default trail place e blank_entry (omega (arith, is_next.low, fits, inside))

        letter_is : letter_of place ≡ e.literal.letter.0
        letter_is = ap (λ (f : TrailEntry). f.literal.letter.0) (sym entry_is)

        -- it is below k, so that from k on nothing is left
        rest_popped : (k : ℕ) → place < k → base ≤ k → k ≤ end → IsRest inputs lines trail base from k old popped clause places more next
        rest_popped k below high under =
            rest_same end k m popped high under found (λ x h. (same x).1 h) (λ x h. inl ((same x).0 h))
            (λ j from_k low is. passed j from_k (is_next.before j low (waits j low (omega (arith, low, fits, inside)) is))) rest
          where
            passed : (j : ℕ) → k ≤ j → (j ≡ place) ⊎ ((j < place) × IsWaiting popped.waiting j) → ⊥
            passed j from_k (inl is) = omega (arith, is, from_k, below)
            passed j from_k (inr h) = omega (arith, h.0, from_k, below)

        -- it stands below the base, and its letter is marked again
        module _ (n : MarksValue) (below : place < base) (high : base ≤ end)
            (only : (x : ℕ) → IsMarked n x → (x ≡ e.literal.letter.0) ⊎ IsMarked popped x) where
          pub rest_marked : FoundSame popped n → ((x : ℕ) → IsMarked popped x → IsMarked n x)
              → IsRest inputs lines trail base from base old n clause places more next
          rest_marked again marked =
              rest_same base base popped n (omega arith) (omega arith) again marked
              (λ x h. elim (only x h) [ inl q ↦ inr (place, below, letter_is ∙ sym q) | inr was ↦ inl was ])
              (λ j from_base low. absurd (omega (arith, from_base, low))) (rest_popped base below (omega arith) high)

          -- it waits again, and so all that is marked below the base does
          pub waiting_again : ((p : ℕ) → (p ≡ place) ⊎ IsWaiting popped.waiting p → IsWaiting n.waiting p) → AreWaiting trail base n
          waiting_again longer j low j_in is = elim (only (literal_at trail j).letter.0 is) [
            | inl q ↦ longer j (inl (same_place values trail are j place j_in (omega (arith, is_next.low, fits, inside)) (q ∙ sym letter_is)))
            | inr was ↦ elim (is_next.before j (omega (arith, low, high)) (waits j (omega (arith, low, high)) j_in ((same _).0 was))) [
              | inl q ↦ longer j (inl q)
              | inr h ↦ longer j (inr h.1)
            ]
          ]

        -- it stands from the base on, and its letter was asked
        module _ (n : MarksValue) (high : base ≤ place)
            (grows : (k : ℕ) → StandsBelow trail k e.literal.letter.0 → Grows inputs lines trail base k popped n) where
          under : place < from
          under = omega (arith, is_next.low, fits)

          grown : Grows inputs lines trail base (place + 1) popped n
          grown = grows (place + 1) (place, omega arith, letter_is)

          asked : IsRest inputs lines trail base from (place + 1) old n clause places more next
          asked = rest_settled place popped under high (rest_popped (place + 1) (omega arith) (omega (arith, high)) (omega (arith, is_next.low))) n grown

          waiting_still : AreWaiting trail place n
          waiting_still = grown.waiting place (still_waiting trail end place m popped waits same is_next (omega (arith, fits, inside)))

          pub asked_follows : outcome_of n e.literal.letter.0 ≡ Some true
              → IsRest inputs lines trail base from place old n clause places more next × AreWaiting trail place n
          asked_follows follows = (rest_follows place n under high asked (ap (outcome_of n) letter_is ∙ follows), waiting_still)

          pub asked_kept : (kept : MarksValue) (more_now : List Literal) (next_now : List ℕ) → length values ≤ length n.outcomes
              → ¬ (outcome_of n e.literal.letter.0 ≡ Some true) → kept ≡ denied n e.literal.letter.0
              → more_now ≡ more ++ opposite e.literal ∷ [] → next_now ≡ next ++ place ∷ [] → IsRest inputs lines trail base from place old kept clause places
              more_now next_now × AreWaiting trail place kept
          asked_kept kept more_now next_now many not_follows kept_is more_is next_is = (
            rest_kept place n under high asked kept more_now next_now many (λ follows. not_follows (ap (outcome_of n) (sym letter_is) ∙ follows))
                (kept_is ∙ ap (denied n) (sym letter_is))
                (more_is ∙ ap (λ (f : TrailEntry). more ++ opposite f.literal ∷ []) entry_is) next_is,
            subst (AreWaiting trail place) (sym kept_is) waiting_still,
          )
