-- The row of each bounded operator says where its formula holds.
use Rattle.std.proofs.Common.{◌≡◌, ℕ, zero, suc, ◌+◌, ◌-◌, ◌*◌, ◌/◌, ◌%◌, ◌<◌, ◌≤◌, Bool, true, false, not, List, length, IsTrue, ◌⊎◌, inl, inr, ◌↔◌, refl, sym}
use Rattle.std.proofs.Common.{◌∙◌}
use Rattle.std.proofs.Common.{subst, arith}
use Rattle.std.proofs.Common.{le-ltb}
use Rattle.std.proofs.lemmas.Bool.{cases_lt, cond-true, cond-false, lt-ltb}
use Rattle.std.proofs.Math.Nat.{mod-add-div', mod-lt}
use Rattle.ltl_syntax.specs.declared.node.UnaryOp.TheVariants.{AlwaysIn, EventuallyIn, HistoricallyIn, NextTimes, OnceIn, YesterdayTimes}
use Rattle.ltl_syntax.specs.Shape.{Direction, Future, Past, Range, Between}
use Rattle.ltl_syntax.specs.Formula.{Formula}
use Rattle.ltl_word.specs.declared.trace.Trace.{Trace}
use Rattle.ltl_word.specs.declared.trace.Trace.TheVariants.{Infinite, Finite}
use Rattle.ltl_word.specs.Trace.{IsTrace, IsPosition}
use Rattle.ltl_word.specs.Claims.{Claim, Always', Reached, IsSomewhere, IsEverywhere}
use Rattle.ltl_word.specs.Holds.{Holds}
use Rattle.ltl_word.specs.Depth.{past_depth}
use Rattle.ltl_word.proofs.Reached.{later_le, some_exactly}
use Rattle.ltl_word.proofs.Steps.{by_form}
use Rattle.ltl_word.proofs.Repeats.{Repeats}
use Rattle.lasso_eval.specs.Cells.{columns, loop_start}
use Rattle.lasso_eval.specs.Rows.{cell, IsRow, Tells}
use Rattle.lasso_eval.specs.Windows.{same, shows}
use Rattle.lasso_eval.specs.Following.{FollowsOne}
use Rattle.lasso_eval.proofs.Turning.{Turns, Holds-turns}

-- what repeats holds where it holds a number of rounds later
module _ (A : Claim) (p start : ℕ) (ra : Repeats A p start) where
  pub rounds_later : (c r : ℕ) → A (start + r) → A (start + (r + c * p))
  rounds_later zero r x = let e : start + r ≡ start + (r + 0 * p) = omega arith in subst A e x
  rounds_later (suc c) r x =
      let e : start + (r + c * p) + p ≡ start + (r + suc c * p) = omega arith in
      subst A e (ra.later (start + (r + c * p)) (omega arith) (rounds_later c r x))

  pub rounds_earlier : (c r : ℕ) → A (start + (r + c * p)) → A (start + r)
  rounds_earlier zero r x = let e : start + (r + 0 * p) ≡ start + r = omega arith in subst A e x
  rounds_earlier (suc c) r x =
      let e : start + (r + suc c * p) ≡ start + (r + c * p) + p = omega arith in
      rounds_earlier c r (ra.earlier (start + (r + c * p)) (omega arith) (subst A e x))

-- what a window shows of a claim: a value that is seen is that of a position, each position is seen, and one without the claim is unseen
record IsWindow (P : Claim) (d : Direction) (r : Range) (A seen unseen : Claim) (i : ℕ) : Type 0 where
  from_seen : (j : ℕ) → Reached Always' d r i j → seen j → Reached P d r i j × A j
  to_seen : (j : ℕ) → Reached P d r i j → A j → Reached Always' d r i j × seen j
  from_unseen : (j : ℕ) → Reached Always' d r i j → unseen j → Reached P d r i j × (A j → ⊥)
  either : (j : ℕ) → Reached P d r i j → A j ⊎ (Reached Always' d r i j × unseen j)

module _ {P A seen unseen : Claim} (d : Direction) (r : Range) (i : ℕ) (window : IsWindow P d r A seen unseen i) where
  some_told : (v : Bool) → IsTrue v ↔ IsSomewhere Always' d r seen i → IsTrue v ↔ IsSomewhere P d r A i
  some_told v tells = (
    λ e. let s = tells.0 e in let x = window.from_seen s.0 s.1 s.2 in (s.0, x.0, x.1),
    λ s. let x = window.to_seen s.0 s.1 s.2 in tells.1 (s.0, x.0, x.1),
  )

  every_told : (v : Bool) → IsTrue (not v) ↔ IsSomewhere Always' d r unseen i → IsTrue v ↔ IsEverywhere P d r A i
  every_told true tells = (
    λ e j reached. elim (window.either j reached) [ inl x ↦ x | inr s ↦ let f = tells.1 (j, s.0, s.1) in absurd (cc) ],
    λ f. refl,
  )
  every_told false tells = (λ e. absurd (cc), λ f. let s = tells.0 refl in let x = window.from_unseen s.0 s.1 s.2 in absurd (x.1 (f s.0 x.0)))

not_both : (v : Bool) → IsTrue v → IsTrue (not v) → ⊥
not_both true e f = cc
not_both false e f = cc

module _ (A : Claim) (a : List Bool) (n : ℕ) (told : IsRow n A a) where
  -- the position is there, and this value says of it what the cells show
  record IsShown (t : Trace) (start j : ℕ) (value : Bool) : Type 0 where
    there : IsPosition t j
    tells : IsTrue value ↔ A j
    shown : (sought : Bool) → shows sought a start j ≡ same sought value

  abbrev IsShownOrNot : Trace → ℕ → ℕ → Type 0
  IsShownOrNot t start j = ((value : Bool) × IsShown t start j value) ⊎ ((IsPosition t j → ⊥) × ((sought : Bool) → shows sought a start j ≡ false))

  shown_at : (t : Trace) (start : ℕ) → Turns t n start A → (j : ℕ) → IsShownOrNot t start j
  shown_at (Infinite stem loop_part) start w j = elim (cases_lt j n) [
    | inl low ↦ inl (
      cell a j,
      record {
        there = tt;
        tells = told.right j low;
        shown = λ sought. cond-true _ _ _ (lt-ltb j (length a) (omega (arith, told.count, low)));
      },
    )
    | inr high ↦
        let p = length a - start in
        let q : length loop_part ≡ p = omega (arith, told.count, w.1) in
        let some : 0 < p = omega (arith, w.0, q) in
        let r = (j - start) % p in
        let c = (j - start) / p in
        let small : r < p = mod-lt (j - start) some in
        let e : start + (r + c * p) ≡ j = omega (arith, mod-add-div' (j - start) p, w.1, high) in
        let ra = subst (λ m. Repeats A m start) q w.2 in
        let one = told.right (start + r) (omega (arith, small, told.count, w.1)) in
        inl (
          cell a (start + r),
          record {
            there = tt;
            tells = (λ t. subst A e (rounds_later A p start ra c r (one.0 t)), λ x. one.1 (rounds_earlier A p start ra c r (subst A (sym e) x)));
            shown = λ sought. cond-false _ _ _ (le-ltb j (length a) (omega (arith, told.count, high)))
                ∙ cond-true _ _ _ (lt-ltb start (length a) (omega (arith, some)));
          },
        )
  ]
  shown_at (Finite states) start w j = elim (cases_lt j n) [
    | inl low ↦ inl (
      cell a j,
      record {
        there = omega (arith, w.1, low);
        tells = told.right j low;
        shown = λ sought. cond-true _ _ _ (lt-ltb j (length a) (omega (arith, told.count, low)));
      },
    )
    | inr high ↦ inr (
      λ at. absurd (omega (arith, at, w.1, high)),
      λ sought. cond-false _ _ _ (le-ltb j (length a) (omega (arith, told.count, high)))
          ∙ cond-false _ _ _ (le-ltb start (length a) (omega (arith, told.count, w.0))),
    )
  ]

  -- a value that is found is that of a position, and the other way round
  found : (t : Trace) (start : ℕ) → Turns t n start A → (j : ℕ) → IsTrue (shows true a start j) → IsPosition t j × A j
  found t start w j s = elim (shown_at t start w j) [
    | inl v ↦ (v.1.there, v.1.tells.0 (sym (v.1.shown true) ∙ s))
    | inr none ↦ let f = none.1 true in absurd (cc)
  ]

  finds : (t : Trace) (start : ℕ) → Turns t n start A → (j : ℕ) → IsPosition t j → A j → IsTrue (shows true a start j)
  finds t start w j at x = elim (shown_at t start w j) [
    | inl v ↦ v.1.shown true ∙ v.1.tells.1 x
    | inr none ↦ absurd (none.0 at)
  ]

  missed : (t : Trace) (start : ℕ) → Turns t n start A → (j : ℕ) → IsTrue (shows false a start j) → IsPosition t j × (A j → ⊥)
  missed t start w j s = elim (shown_at t start w j) [
    | inl v ↦ (v.1.there, λ x. not_both v.0 (v.1.tells.1 x) (sym (v.1.shown false) ∙ s))
    | inr none ↦ let f = none.1 false in absurd (cc)
  ]

  hit_or_missed : (t : Trace) (start : ℕ) → Turns t n start A → (j : ℕ) → IsPosition t j → A j ⊎ IsTrue (shows false a start j)
  hit_or_missed t start w j at = elim (shown_at t start w j) [
    | inl v ↦ either v.0 v.1.tells (v.1.shown false)
    | inr none ↦ absurd (none.0 at)
  ] where
    either : (v : Bool) → IsTrue v ↔ A j → shows false a start j ≡ not v → A j ⊎ IsTrue (shows false a start j)
    either true tells s = inl (tells.0 refl)
    either false tells s = inr s

  ahead : (t : Trace) (start : ℕ) → Turns t n start A → (r : Range) (i : ℕ)
      → IsWindow (IsPosition t) Future r A (λ j. IsTrue (shows true a start j)) (λ j. IsTrue (shows false a start j)) i
  ahead t start w r i = record {
    from_seen = λ j at s. let x = found t start w j s in ((at.0, x.0), x.1);
    to_seen = λ j at x. ((at.0, tt), finds t start w j at.1 x);
    from_unseen = λ j at s. let x = missed t start w j s in ((at.0, x.0), x.1);
    either = λ j at. elim (hit_or_missed t start w j at.1) [ inl x ↦ inl x | inr s ↦ inr ((at.0, tt), s) ];
  }

  behind : (P : Claim) (r : Range) (i : ℕ) → i < n → IsWindow P Past r A (λ j. IsTrue (cell a j)) (λ j. IsTrue (not (cell a j))) i
  behind P r i low = record {
    from_seen = λ j at s. (at, (here j at).0 s);
    to_seen = λ j at x. (at, (here j at).1 x);
    from_unseen = λ j at s. (at, λ x. not_both (cell a j) ((here j at).1 x) s);
    either = λ j at. told_or (cell a j) at (here j at);
  } where
    here : (j : ℕ) → Reached P Past r i j → IsTrue (cell a j) ↔ A j
    here j at = told.right j (let le = later_le r j i at in omega (arith, le, low))

    told_or : (b : Bool) {B R : Type 0} → R → IsTrue b ↔ B → B ⊎ (R × IsTrue (not b))
    told_or true at says = inl (says.0 refl)
    told_or false at says = inr (at, refl)

-- the row has the value where the window ahead has it, and where the window behind has it
abbrev pub IsLaterRow : Bool → ℕ → ℕ → List Bool → ℕ → List Bool → Type 0
IsLaterRow sought first last a start row =
    (i : ℕ) → i < length a → IsTrue (same sought (cell row i)) ↔ IsSomewhere Always' Future (Between first last) (λ j. IsTrue (shows sought a start j)) i

abbrev pub IsEarlierRow : Bool → ℕ → ℕ → List Bool → List Bool → Type 0
IsEarlierRow sought first last a row =
    (i : ℕ) → i < length a → IsTrue (same sought (cell row i)) ↔ IsSomewhere Always' Past (Between first last) (λ j. IsTrue (same sought (cell a j))) i

module _ (first last : ℕ) (a row : List Bool) (start : ℕ) (count : length row ≡ length a) where
  module _ (t : Trace) (depth : ℕ) (f : Formula) (told : Tells t depth f a) (r : Range) (i : ℕ) where
    window_ahead : IsTrace t → start ≡ loop_start t depth → past_depth f ≤ depth
        → IsWindow (IsPosition t) Future r (Holds t f) (λ j. IsTrue (shows true a start j)) (λ j. IsTrue (shows false a start j)) i
    window_ahead good at deep = ahead (Holds t f) a (columns t depth) told t start (Holds-turns t good depth (columns t depth) start f refl at deep) r i

    window_behind : i < columns t depth → IsWindow (IsPosition t) Past r (Holds t f) (λ j. IsTrue (cell a j)) (λ j. IsTrue (not (cell a j))) i
    window_behind low = behind (Holds t f) a (columns t depth) told (IsPosition t) r i low

  pub eventually_in_follows : IsLaterRow true first last a start row → FollowsOne (EventuallyIn first last) a start row
  eventually_in_follows each t depth f good at deep told = record {
    count = count ∙ told.count;
    right = λ i h. some_told Future (Between first last) i (window_ahead t depth f told (Between first last) i good at (omega arith)) (cell row i)
        (each i (omega (arith, told.count, h)));
  }

  pub always_in_follows : IsLaterRow false first last a start row → FollowsOne (AlwaysIn first last) a start row
  always_in_follows each t depth f good at deep told = record {
    count = count ∙ told.count;
    right = λ i h. every_told Future (Between first last) i (window_ahead t depth f told (Between first last) i good at (omega arith)) (cell row i)
        (each i (omega (arith, told.count, h)));
  }

  pub once_in_follows : IsEarlierRow true first last a row → FollowsOne (OnceIn first last) a start row
  once_in_follows each t depth f good at deep told = record {
    count = count ∙ told.count;
    right = λ i h. some_told Past (Between first last) i (window_behind t depth f told (Between first last) i h) (cell row i)
        (each i (omega (arith, told.count, h)));
  }

  pub historically_in_follows : IsEarlierRow false first last a row → FollowsOne (HistoricallyIn first last) a start row
  historically_in_follows each t depth f good at deep told = record {
    count = count ∙ told.count;
    right = λ i h. every_told Past (Between first last) i (window_behind t depth f told (Between first last) i h) (cell row i)
        (each i (omega (arith, told.count, h)));
  }

-- n positions away is between n and n away
module _ (times : ℕ) (a row : List Bool) (start : ℕ) (count : length row ≡ length a) where
  pub next_times_follows : IsLaterRow true times times a start row → FollowsOne (NextTimes times) a start row
  next_times_follows each t depth f good at deep told =
      let window = eventually_in_follows times times a row start count each t depth f good at deep told in
      record { count = window.count; right = λ i h. by_form (window.right i h) (some_exactly (IsPosition t) (Holds t f) Future times i) }

  pub yesterday_times_follows : IsEarlierRow true times times a row → FollowsOne (YesterdayTimes times) a start row
  yesterday_times_follows each t depth f good at deep told =
      let window = once_in_follows times times a row start count each t depth f good at deep told in
      record { count = window.count; right = λ i h. by_form (window.right i h) (some_exactly (IsPosition t) (Holds t f) Past times i) }
