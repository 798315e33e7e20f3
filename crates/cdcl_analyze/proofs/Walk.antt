-- The walk down the trail that explains a conflict by any of its literals.
use Rattle.std.proofs.Common.{◌≡◌, ℕ, suc, ◌<◌, ◌≤◌, ◌+◌, ◌^◌, ◌⊎◌, inl, inr, List, [], ◌∷◌, ◌++◌, Bool, true, false, not, Option, Some, map, take, reverse}
use Rattle.std.proofs.Common.{All, Contains, length, get_or, refl, sym, ap, ◌∙◌, subst, arith}
use mathlib.Core.Bool.{false≢true}
use Rattle.std.proofs.lemmas.Bool.{cases_lt, cases_eq}
use Rattle.std.proofs.lemmas.List.{map-append, reverse-append, get_or-map, length-map, get_or_append_left, get_or_at, length_push, take_all}
use Rattle.std.proofs.lemmas.List.Elements.{All-nil, All-cons, All-push, All-weaker, All-contains, Contains-push, Contains-push_cases, Contains-get_or}
use Rattle.std.proofs.lemmas.List.Elements.{All-contains_itself}
use Rattle.cnf_base.specs.declared.literal.Literal.{Literal}
use Rattle.cnf_base.specs.declared.literal.Hint.{Hint}
use Rattle.cnf_base.specs.Literal.{opposite}
use Rattle.cnf_base.specs.Step.{named, conflict, propagate, IsUnit, IsHintedStep}
use Rattle.cnf_base.proofs.SameLiteral.{opposite_opposite}
use Rattle.clause_log.specs.LogValue.{greatest_u32}
use Rattle.cdcl_trail.specs.Trail.{literals_of, IsReason, AreValues, blank_entry, literal_at, IsInside}
use Rattle.cnf_base.specs.Known.{IsKnown}
use Rattle.cdcl_trail.specs.Values.{IsBelow}
use Rattle.cdcl_analyze.specs.Analysis.{AreFromOne, IsUnder, Covers, IsWalk}
use Rattle.cdcl_trail.specs.declared.assigned.TrailEntry.{TrailEntry}
use Rattle.cdcl_trail.proofs.Standing.{true_place, places_apart}

pub Contains_cons : {X : Type 0} (x y : X) (xs : List X) → Contains xs y → Contains (x ∷ xs) y
Contains_cons x y xs there = (suc there.0, omega (arith, there.1), there.2)

pub Contains_head : {X : Type 0} (x : X) (xs : List X) → Contains (x ∷ xs) x
Contains_head x xs = (0, omega arith, refl)

pub Contains_map : {X Y : Type 0} (f : X → Y) (d : X) (xs : List X) (y : Y) → Contains (map f xs) y → (x : X) × Contains xs x × (y ≡ f x)
Contains_map f d xs y (k, below, is) =
    let low = subst (λ n. k < n) (length-map xs f) below in
    (get_or xs k d, Contains-get_or xs k d low, sym is ∙ get_or-map f xs k d y low)

-- the marked letters below n stand below k, and are marked still
abbrev pub StandBelow : List TrailEntry → ℕ → ℕ → (ℕ → Type 0) → (ℕ → Type 0) → Type 0
StandBelow trail n k marked more = (j : ℕ) → j < n → marked (literal_at trail j).letter.0 → (j < k) × more (literal_at trail j).letter.0

covers_pass : (trail : List TrailEntry) (n k : ℕ) (marked more : ℕ → Type 0) (clause falses : List Literal) → k ≤ n → StandBelow trail n k marked more
    → Covers trail k more clause falses → Covers trail n marked clause falses
covers_pass trail n k marked more clause falses fits below covers = record {
  marked_in = λ j low is. let here = below j low is in covers.marked_in j here.0 here.1;
  clause_in = covers.clause_in;
  only = All-weaker (λ m. Contains clause m ⊎ IsUnder trail k m) (λ m. Contains clause m ⊎ IsUnder trail n m)
      (λ m h. elim h [ inl c ↦ inl c | inr b ↦ inr (b.0, omega (arith, b.1, fits), b.2) ]) falses covers.only;
}

module _ (trail : List TrailEntry) (k : ℕ) (marked : ℕ → Type 0) (clause : List Literal) where
  pub covers_keep : (falses : List Literal) → Covers trail k marked (clause ++ opposite (literal_at trail k) ∷ []) falses
      → Covers trail (k + 1) marked clause falses
  covers_keep falses covers =
      let u = opposite (literal_at trail k) in
      record {
        marked_in = λ j below is. elim (cases_lt j k) [
          | inl low ↦ covers.marked_in j low is
          | inr high ↦
              let same : j ≡ k = omega arith in
              rw same (All-contains (Contains falses) (clause ++ u ∷ []) u covers.clause_in (Contains-push clause u))
        ];
        clause_in = λ i d below.
            subst (Contains falses) (get_or_append_left clause (u ∷ []) d i below) (covers.clause_in i d (omega (arith, length_push clause u)));
        only = All-weaker (λ m. Contains (clause ++ u ∷ []) m ⊎ IsUnder trail k m) (λ m. Contains clause m ⊎ IsUnder trail (k + 1) m)
            (λ m h. elim h [
              | inl c ↦ elim (Contains-push_cases clause u m c) [ inl old ↦ inl old | inr is ↦ inr (k, omega arith, sym is) ]
              | inr b ↦ inr (b.0, omega (arith, b.1), b.2)
            ]) falses covers.only;
      }

  pub covers_resolve : (more : ℕ → Type 0) (falses : List Literal) → ((x : ℕ) → marked x → more x) → Covers trail k more clause falses
      → Covers trail (k + 1) marked clause (opposite (literal_at trail k) ∷ falses)
  covers_resolve more falses kept covers =
      let u = opposite (literal_at trail k) in
      record {
        marked_in = λ j below is. elim (cases_lt j k) [
          | inl low ↦ Contains_cons u _ falses (covers.marked_in j low (kept _ is))
          | inr high ↦
              let same : j ≡ k = omega arith in
              rw same (Contains_head u falses)
        ];
        clause_in = All-weaker (Contains falses) (Contains (u ∷ falses)) (λ m h. Contains_cons u m falses h) clause covers.clause_in;
        only = All-cons (λ m. Contains clause m ⊎ IsUnder trail (k + 1) m) u falses (inr (k, omega arith, refl))
            (All-weaker (λ m. Contains clause m ⊎ IsUnder trail k m) (λ m. Contains clause m ⊎ IsUnder trail (k + 1) m)
            (λ m h. elim h [ inl c ↦ inl c | inr b ↦ inr (b.0, omega (arith, b.1), b.2) ]) falses covers.only);
      }

-- what is false on the first k and marked is covered
covered : (trail : List TrailEntry) (k : ℕ) (marked : ℕ → Type 0) (clause falses : List Literal) → Covers trail k marked clause falses → k ≤ length trail
    → (l : Literal) → Contains (literals_of (take k trail)) (opposite l) → marked l.letter.0 → Contains falses l
covered trail k marked clause falses covers within l there is_marked =
    let place = true_place trail k (opposite l) within there in
    let same_letter : (literal_at trail place.0).letter.0 ≡ l.letter.0 = ap (λ (m : Literal). m.letter.0) place.2 in
    let inside = covers.marked_in place.0 place.1 (subst marked (sym same_letter) is_marked) in
    subst (Contains falses) (ap opposite place.2 ∙ opposite_opposite l) inside

-- known letters are numbers of a `u32`
pub within_u32 : (letters : ℕ) (clause : List Literal) → letters ≤ 2 ^ 32 → All (IsBelow letters) clause → All (IsKnown greatest_u32) clause
within_u32 letters clause few known k d below = let here = known k d below in record { from_one = here.0; within = omega (arith, here.1, few) }

pub walk_start : (inputs lines : List (List Literal)) (trail : List TrailEntry) (letters : ℕ) (marked : ℕ → Type 0) (hint : Hint) (clause : List Literal)
    → named inputs lines hint ≡ Some clause → All (IsBelow letters) clause → letters ≤ 2 ^ 32 → All (λ l. Contains (literals_of trail) (opposite l)) clause
    → All (λ l. marked l.letter.0) clause
    → IsWalk inputs lines trail (length trail) marked [] (hint ∷ []) []
walk_start inputs lines trail letters marked hint clause is known few all_false all_marked = record {
  explains = λ falses covers. conflict {clause = clause} (record { is = is; within = λ _ _. within_u32 letters clause few known })
      (λ i d below. covered trail (length trail) marked [] falses covers (omega arith) (get_or clause i d)
      (subst (λ t. Contains (literals_of t) (opposite (get_or clause i d))) (sym (take_all (length trail) trail (omega arith))) (all_false i d below))
      (all_marked i d below));
  clause_is = refl;
  inside = All-nil (IsInside trail);
  above = All-nil (λ p. length trail ≤ p);
  falling = λ i j d earlier below. absurd (omega (arith, below));
  within = omega arith;
}

-- what is not marked is passed over
pub walk_pass : (inputs lines : List (List Literal)) (trail : List TrailEntry) (n k : ℕ) (marked more : ℕ → Type 0) (clause : List Literal) (hints : List Hint)
    (places : List ℕ) → k ≤ n → StandBelow trail n k marked more
    → IsWalk inputs lines trail n marked clause hints places → IsWalk inputs lines trail k more clause hints places
walk_pass inputs lines trail n k marked more clause hints places fits below walk = record {
  explains = λ falses covers. walk.explains falses (covers_pass trail n k marked more clause falses fits below covers);
  clause_is = walk.clause_is;
  inside = walk.inside;
  above = λ i d low. omega (arith, walk.above i d low, fits);
  falling = walk.falling;
  within = omega (arith, walk.within, fits);
}

module _ (inputs lines : List (List Literal)) (trail : List TrailEntry) (k : ℕ) (marked : ℕ → Type 0) (clause : List Literal)
    (hints : List Hint) (places : List ℕ)
    (walk : IsWalk inputs lines trail (k + 1) marked clause hints places) where
  pub walk_keep : IsWalk inputs lines trail k marked (clause ++ opposite (literal_at trail k) ∷ []) hints (places ++ k ∷ [])
  walk_keep = record {
    explains = λ falses covers. walk.explains falses (covers_keep trail k marked clause falses covers);
    clause_is = ap (λ c. c ++ opposite (literal_at trail k) ∷ []) walk.clause_is ∙ sym (map-append (λ p. opposite (literal_at trail p)) places (k ∷ []));
    inside = All-push (IsInside trail) places k walk.inside (omega (arith, walk.within));
    above = All-push (λ p. k ≤ p) places k (λ i d below. omega (arith, walk.above i d below)) (omega arith);
    falling = λ i j d earlier below. elim (cases_lt j (length places)) [
      | inl old ↦ rw (get_or_append_left places (k ∷ []) d i (omega arith), get_or_append_left places (k ∷ []) d j old) (walk.falling i j d earlier old)
      | inr high ↦
          let last : length places ≡ j = omega (arith, length_push places k) in
          rw (get_or_append_left places (k ∷ []) d i (omega arith), get_or_at places k [] d j last) (omega (arith, walk.above i d (omega arith)))
    ];
    within = omega (arith, walk.within);
  }

  pub walk_resolve : (letters : ℕ) (values : List (Option Bool)) (more : ℕ → Type 0) (hint : Hint)
      (reason : IsReason inputs lines (literals_of (take k trail)) (literal_at trail k) hint)
      → AreValues values trail → All (IsBelow letters) reason.clause → letters ≤ 2 ^ 32
      → ((x : ℕ) → marked x → more x) → All (λ l. more l.letter.0) reason.clause
      → IsWalk inputs lines trail k more clause (hints ++ hint ∷ []) places
  walk_resolve letters values more hint reason are known few kept all_marked =
      let u = literal_at trail k in
      let low : k < length trail = omega (arith, walk.within) in
      record {
        explains = λ falses covers.
            let foreign : (m : Literal) → m.letter.0 ≡ u.letter.0 → ¬ Contains falses m =
            λ m same there. elim (All-contains (λ n. Contains clause n ⊎ IsUnder trail k n) falses m covers.only there) [
              | inl c ↦
                  let p = Contains_map (λ q. opposite (literal_at trail q)) 0 places m (subst (λ cs. Contains cs m) walk.clause_is c) in
                  let above = All-contains (λ q. k + 1 ≤ q) places p.0 walk.above p.1 in
                  let inside = All-contains (IsInside trail) places p.0 walk.inside p.1 in
                  places_apart values trail are p.0 k inside low (λ e. omega (arith, above, e)) (sym (ap (λ (n : Literal). n.letter.0) p.2) ∙ same)
              | inr b ↦
                  places_apart values trail are b.0 k (omega (arith, b.1)) low (λ e. omega (arith, b.1, e)) (sym (ap (λ (n : Literal). n.letter.0) b.2) ∙ same)
            ] in
            let unit : IsUnit falses reason.clause u = record {
              there = reason.there;
              not_false = foreign u refl;
              not_true = foreign (opposite u) refl;
              others = λ i d below. elim (reason.others i d below) [
                | inl e ↦ inr e
                | inr there ↦ inl (covered trail k more clause falses covers (omega arith) (get_or reason.clause i d) there (all_marked i d below))
              ];
            } in
            rw reverse-append
            (propagate {clause = reason.clause} {u = u} (record { is = reason.is; within = λ _ _. within_u32 letters reason.clause few known }) unit
            (walk.explains (opposite u ∷ falses) (covers_resolve trail k marked clause more falses kept covers)));
        clause_is = walk.clause_is;
        inside = walk.inside;
        above = λ i d below. omega (arith, walk.above i d below);
        falling = walk.falling;
        within = omega (arith, walk.within);
      }

-- at the foot of the trail the clause with its hints is a hinted step
pub walk_end : (values : List (Option Bool)) (inputs lines : List (List Literal)) (trail : List TrailEntry) (marked : ℕ → Type 0) (clause : List Literal)
    (hints : List Hint) (places : List ℕ)
    → AreValues values trail → length values ≤ 2 ^ 32 → AreFromOne trail → IsWalk inputs lines trail 0 marked clause hints places
    → IsHintedStep inputs lines greatest_u32 clause (reverse hints)
walk_end values inputs lines trail marked clause hints places are few from_one walk =
    let from_place : (m : Literal) → Contains clause m → (p : ℕ) × (p < length trail) × (m ≡ opposite (literal_at trail p)) =
    λ m c.
    let p = Contains_map (λ q. opposite (literal_at trail q)) 0 places m (subst (λ cs. Contains cs m) walk.clause_is c) in
    (p.0, (All-contains (IsInside trail) places p.0 walk.inside p.1), p.2) in
    record {
      within = λ i d below.
          let p = from_place (get_or clause i d) (Contains-get_or clause i d below) in
          let known = are.known p.0 blank_entry p.1 in
          let letter = ap (λ (n : Literal). n.letter.0) p.2 in
          record { from_one = omega (arith, letter, from_one p.0 blank_entry p.1); within = omega (arith, letter, known, few) };
      no_pair = λ l here there.
          let p = from_place l here in
          let q = from_place (opposite l) there in
          elim (cases_eq p.0 q.0) [
            | inl same ↦
                let e : opposite l ≡ l = q.2 ∙ ap (λ i. opposite (literal_at trail i)) (sym same) ∙ sym p.2 in
                not_own l.negated (ap (λ (n : Literal). n.negated) e)
            | inr differ ↦
                places_apart values trail are p.0 q.0 p.1 q.1 differ (sym (ap (λ (n : Literal). n.letter.0) p.2) ∙ ap (λ (n : Literal). n.letter.0) q.2)
          ];
      refutes = walk.explains clause (record {
        marked_in = λ j below is. absurd (omega (arith, below));
        clause_in = All-contains_itself clause;
        only = All-weaker (Contains clause) (λ m. Contains clause m ⊎ IsUnder trail 0 m) (λ m h. inl h) clause (All-contains_itself clause);
      });
    }
  where
    not_own : (b : Bool) → ¬ (not b ≡ b)
    not_own true e = false≢true e
    not_own false e = false≢true (sym e)
