-- A run that closes by a loop gives a trace that satisfies the formula.
use Rattle.std.proofs.Common.{◌≡◌, ℕ, zero, suc, ◌+◌, ◌-◌, ◌<◌, ◌≤◌, ◌⊎◌, inl, inr, subst, ap, arith, sym, refl, ◌∙◌, List, [], ◌∷◌, length, Contains, ◌&&◌}
use Rattle.std.proofs.Common.{IsTrue, eqb, eq-eqb, ne_eqb, slice_index_or, lt-ltb, le-ltb, mod-eq_of_lt, if◌then◌else◌}
use Rattle.std.proofs.lemmas.Bool.{cases_lt, cases_eq, and_parts, or_cases, cond-true, cond-false}
use Rattle.ltl_syntax.specs.Formula.{Formula}
use Rattle.ltl_word.specs.declared.trace.Trace.{Trace}
use Rattle.ltl_word.specs.declared.trace.Trace.TheVariants.{Infinite}
use Rattle.ltl_word.specs.Trace.{Names, state_at}
use Rattle.ltl_word.specs.Holds.{Holds}
use Rattle.ltl_word.specs.Claims.{Always'}
use Rattle.ltl_closure.specs.Norm.{Norm, NNext, NWeakNext, NYesterday, NWeakYesterday, NUntil, pos_of, formula_of}
use Rattle.ltl_closure.specs.Closure.{closure, nexts, yesterdays, eventualities, argument, is_next, is_yesterday, is_eventuality}
use Rattle.ltl_closure.specs.Run.{States, IsRun, val, carry, IsFulfilledIn, is_pending}
use Rattle.ltl_run.specs.TraceOf.{Shows, IsLoopTrace}
use Rattle.ltl_closure.proofs.Lists.{Contains-here, Contains-there, Contains-filter}
use Rattle.ltl_closure.proofs.Entries.{closure_closed, closure_root}
use Rattle.ltl_run.proofs.Carry.{OneCarry-from}
use Rattle.ltl_word.proofs.Periodicity.{state-repeats}
use Rattle.ltl_run.proofs.Sound.{Follows, sound}

pub until_request : (f : Formula) (a b : Norm) → Contains (closure f) (NUntil a b) → Contains (closure f) (NNext (NUntil a b))
until_request f a b c = closure_closed f (NUntil a b) (NNext (NUntil a b)) c
    (Contains-there a (b ∷ NNext (NUntil a b) ∷ []) _ (Contains-there b (NNext (NUntil a b) ∷ []) _ (Contains-here (NNext (NUntil a b)) [])))

module _ (l k : ℕ) (lt : l < k) where
  -- the state that stands at position i
  index : ℕ → ℕ
  index zero = zero
  index (suc i) = if eqb (index i) k then suc l else suc (index i)

  index_back : (i : ℕ) → index i ≡ k → index (suc i) ≡ suc l
  unfolding index
  index_back i e = cond-true _ _ _ (eq-eqb (index i) k e)

  index_on : (i : ℕ) → (index i ≡ k → ⊥) → index (suc i) ≡ suc (index i)
  unfolding index
  index_on i h = cond-false _ _ _ (ne_eqb (index i) k h)

  index_below : (i : ℕ) → index i ≤ k
  unfolding index
  index_below zero = omega arith
  index_below (suc i) = elim (cases_eq (index i) k) [
    | inl e ↦ let d = index_back i e in omega arith
    | inr h ↦ let d = index_on i h in let b = index_below i in omega arith
  ]

  -- the next position has the next state, or the one after l
  index_step : (i : ℕ) → ((index i ≡ k) × (index (suc i) ≡ suc l)) ⊎ ((index i < k) × (index (suc i) ≡ suc (index i)))
  index_step i = elim (cases_eq (index i) k) [
    | inl e ↦ inl (e, index_back i e)
    | inr h ↦ let b = index_below i in inr (omega arith, index_on i h)
  ]

  index_first : (i : ℕ) → i ≤ k → index i ≡ i
  unfolding index
  index_first zero h = refl
  index_first (suc i) h =
      let e = index_first i (omega arith) in
      let n : index i ≡ k → ⊥ = omega arith in
      index_on i n ∙ ap suc e

  index_same : (i j : ℕ) → index i ≡ index j → index (suc i) ≡ index (suc j)
  unfolding index
  index_same i j e = ap (λ n. if eqb n k then suc l else suc n) e

  index_repeats : (m : ℕ) → index (suc l + m + (k - l)) ≡ index (suc l + m)
  index_repeats zero =
      let e : suc l + zero + (k - l) ≡ suc k = omega arith in
      let d : suc l + zero ≡ suc l = omega arith in
      ap index e ∙ (index_back k (index_first k (omega arith)) ∙ sym (ap index d ∙ index_first (suc l) (omega arith)))
  index_repeats (suc m) =
      let e : suc l + suc m + (k - l) ≡ suc (suc l + m + (k - l)) = omega arith in
      let d : suc l + suc m ≡ suc (suc l + m) = omega arith in
      ap index e ∙ (index_same _ _ (index_repeats m) ∙ sym (ap index d))

  -- from each position on, state k comes
  index_reaches : (fuel i : ℕ) → index i + fuel ≡ k → (m : ℕ) × (i ≤ m) × (index m ≡ k)
  index_reaches zero i e = (i, omega arith, omega arith)
  index_reaches (suc fuel) i e =
      let n : index i ≡ k → ⊥ = omega arith in
      let d = index_on i n in
      let w = index_reaches fuel (suc i) (omega arith) in
      (w.0, omega arith, w.2)

  -- the states after l, counted from a position with state k
  index_after : (m : ℕ) → index m ≡ k → (n : ℕ) → suc l + n ≤ k → index (suc m + n) ≡ suc l + n
  index_after m e zero h =
      let d : suc m + zero ≡ suc m = omega arith in
      let c : suc l ≡ suc l + zero = omega arith in
      ap index d ∙ (index_back m e ∙ c)
  index_after m e (suc n) h =
      let d : suc m + suc n ≡ suc (suc m + n) = omega arith in
      let i = index_after m e n (omega arith) in
      let no' : index (suc m + n) ≡ k → ⊥ = omega arith in
      let c : suc (suc l + n) ≡ suc l + suc n = omega arith in
      ap index d ∙ (index_on (suc m + n) no' ∙ (ap suc i ∙ c))

module _ (f : Formula) (k : ℕ) (r : States) (run : IsRun f k r) (l : ℕ) (lt : l < k) (one : carry f (r l) ≡ carry f (r k))
    (done : (e : Norm) → Contains (eventualities f) e → IsTrue (is_pending (r k) e) → IsFulfilledIn r l k e) where
  at : ℕ → ℕ
  at i = index l k lt i

  unrolled : States
  unrolled i = r (at i)

  unrolled_next : (i : ℕ) (e : Norm) → Contains (nexts f) e → unrolled i e ≡ val (unrolled (suc i)) (argument e)
  unfolding unrolled at
  unrolled_next i e c = elim (index_step l k lt i) [
    | inl w ↦ rw (w.0, w.1) (sym ((OneCarry-from f (r l) (r k) one).next e c) ∙ run.next l lt e c)
    | inr w ↦ rw w.1 (run.next (at i) w.0 e c)
  ]

  unrolled_before : (i : ℕ) (e : Norm) → Contains (yesterdays f) e → unrolled (suc i) e ≡ val (unrolled i) (argument e)
  unfolding unrolled at
  unrolled_before i e c = elim (index_step l k lt i) [
    | inl w ↦ rw (w.0, w.1) (run.before l lt e c ∙ (OneCarry-from f (r l) (r k) one).before e c)
    | inr w ↦ rw w.1 (run.before (at i) w.0 e c)
  ]

  in_nexts : (a : Norm) → Contains (closure f) (NNext a) → Contains (nexts f) (NNext a)
  in_nexts a c = Contains-filter is_next (closure f) (NNext a) c refl

  -- a request that is true stays until its right operand is true
  waits : (a b : Norm) → Contains (closure f) (NUntil a b) → (fuel i : ℕ) → IsTrue (val (unrolled i) (NUntil a b))
      → ((j : ℕ) × (i ≤ j) × IsTrue (val (unrolled j) b)) ⊎ IsTrue (unrolled (i + fuel) (NNext (NUntil a b)))
  waits a b c zero i v = elim (or_cases (val (unrolled i) b) (val (unrolled i) a && unrolled i (NNext (NUntil a b))) v) [
    | inl now ↦ inl (i, omega arith, now)
    | inr both ↦
        let e : i ≡ i + zero = omega arith in
        inr (subst (λ n. IsTrue (unrolled n (NNext (NUntil a b)))) e (and_parts (val (unrolled i) a) (unrolled i (NNext (NUntil a b))) both).1)
  ]
  waits a b c (suc fuel) i v = elim (or_cases (val (unrolled i) b) (val (unrolled i) a && unrolled i (NNext (NUntil a b))) v) [
    | inl now ↦ inl (i, omega arith, now)
    | inr both ↦
        let x = (and_parts (val (unrolled i) a) (unrolled i (NNext (NUntil a b))) both).1 in
        let u : IsTrue (val (unrolled (suc i)) (NUntil a b)) = sym (unrolled_next i (NNext (NUntil a b)) (in_nexts (NUntil a b) (until_request f a b c))) ∙ x in
        let e : suc i + fuel ≡ i + suc fuel = omega arith in
        elim (waits a b c fuel (suc i) u) [
          | inl w ↦ inl (w.0, omega arith, w.2)
          | inr w ↦ inr (subst (λ n. IsTrue (unrolled n (NNext (NUntil a b)))) e w)
        ]
  ]

  unrolled_fair : (a b : Norm) → Contains (closure f) (NUntil a b) → (i : ℕ) → IsTrue (val (unrolled i) (NUntil a b))
      → (j : ℕ) × (i ≤ j) × IsTrue (val (unrolled j) b)
  unfolding unrolled at
  unrolled_fair a b c i v =
      let below = index_below l k lt i in
      let m = index_reaches l k lt (k - at i) i (omega arith) in
      let e : i + (m.0 - i) ≡ m.0 = omega arith in
      elim (waits a b c (m.0 - i) i v) [
        | inl w ↦ w
        | inr w ↦
            let p : IsTrue (r k (NNext (NUntil a b))) = subst (λ n. IsTrue (r n (NNext (NUntil a b)))) (ap at e ∙ m.2) w in
            let q = done (NUntil a b) (Contains-filter is_eventuality (closure f) (NUntil a b) c refl) p in
            let d : suc l + (q.0 - suc l) ≡ q.0 = omega arith in
            let x = index_after l k lt m.0 m.2 (q.0 - suc l) (omega arith) in
            (suc m.0 + (q.0 - suc l), omega arith, subst (λ n. IsTrue (val (r n) b)) (sym (x ∙ d)) q.3)
      ]

  module _ (stem loop_part : List Names) (shown : IsLoopTrace f r l k stem loop_part) where
    some : 0 < length loop_part
    some = let e = shown.loop_length in omega arith

    abbrev t : Trace
    t = Infinite stem loop_part

    ShowsAt : ℕ → Type 0
    ShowsAt i = Shows f (unrolled i) (state_at t i)

    shows_low : (i : ℕ) → i ≤ l → ShowsAt i
    unfolding unrolled at ShowsAt
    shows_low i le =
        let e = shown.stem_length in
        let s : i < length stem = omega arith in
        rw (index_first l k lt i (omega arith)) (subst (Shows f (r i)) (sym (cond-true _ _ _ (lt-ltb i (length stem) s))) (shown.first i le))

    shows_once : (i : ℕ) → suc l ≤ i → i ≤ k → ShowsAt i
    unfolding unrolled at ShowsAt
    shows_once i high le =
        let e = shown.stem_length in
        let g = shown.loop_length in
        let s : length stem ≤ i = omega arith in
        let n : i - length stem < length loop_part = omega arith in
        let d : suc l + (i - length stem) ≡ i = omega arith in
        let state : slice_index_or loop_part (i - length stem) [] ≡ state_at t i =
        sym (cond-false _ _ _ (le-ltb i (length stem) s) ∙ ap (λ m. slice_index_or loop_part m []) (mod-eq_of_lt n)) in
        rw (index_first l k lt i le)
        (subst (Shows f (r i)) state (subst (λ m. Shows f (r m) (slice_index_or loop_part (i - length stem) [])) d (shown.second (i - length stem) n)))

    shows_moved : (j i : ℕ) → suc l ≤ j → i ≡ j + (k - l) → ShowsAt j → ShowsAt i
    unfolding unrolled at ShowsAt
    shows_moved j i high d h =
        let e = shown.stem_length in
        let g = shown.loop_length in
        let a : i ≡ suc l + (j - suc l) + (k - l) = omega arith in
        let b : suc l + (j - suc l) ≡ j = omega arith in
        let x : index l k lt i ≡ index l k lt j = ap (index l k lt) a ∙ (index_repeats l k lt (j - suc l) ∙ ap (index l k lt) b) in
        let y : i ≡ j + length loop_part = omega arith in
        let z : state_at t j ≡ state_at t i = sym (ap (state_at t) y ∙ state-repeats stem loop_part some j (omega arith)) in
        subst (λ m. Shows f (r m) (state_at t i)) (sym x) (subst (Shows f (r (index l k lt j))) z h)

    shows_later : (fuel i : ℕ) → i ≤ fuel → suc l ≤ i → ShowsAt i
    shows_later zero i le high = absurd (omega arith)
    shows_later (suc fuel) i le high = elim (cases_lt k i) [
      | inr within ↦ shows_once i high within
      | inl past ↦
          let e = shown.stem_length in
          let g = shown.loop_length in
          let before : ShowsAt (i - (k - l)) = shows_later fuel (i - (k - l)) (omega arith) (omega arith) in
          shows_moved (i - (k - l)) i (omega arith) (omega arith) before
    ]

    shows_at : (i : ℕ) → ShowsAt i
    shows_at i = elim (cases_lt l i) [ inl high ↦ shows_later i i (omega arith) high | inr low ↦ shows_low i low ]

    yesterday_at : (i : ℕ) → Always' i → (a : Norm) → Contains (closure f) (NYesterday a) → IsTrue (unrolled i (NYesterday a))
        → (j : ℕ) × (suc j ≡ i) × Always' j × IsTrue (val (unrolled j) a)
    unfolding unrolled at index
    yesterday_at zero d a c v = let no' = run.yesterday a c in cc
    yesterday_at (suc i) d a c v = (i, refl, tt, sym (unrolled_before i (NYesterday a) (Contains-filter is_yesterday (closure f) (NYesterday a) c refl)) ∙ v)

    follows : Follows f t unrolled Always'
    unfolding ShowsAt
    follows = record {
      position = λ i d. tt;
      letters = λ i d p c. (shows_at i).letters p c;
      next = λ i d a c v. (tt, sym (unrolled_next i (NNext a) (in_nexts a c)) ∙ v);
      weak_next = λ i d a c v at. (tt, sym (unrolled_next i (NWeakNext a) (Contains-filter is_next (closure f) (NWeakNext a) c refl)) ∙ v);
      yesterday = yesterday_at;
      weak_yesterday = λ i d a c v j e.
          let before = unrolled_before j (NWeakYesterday a) (Contains-filter is_yesterday (closure f) (NWeakYesterday a) c refl) in
          (tt, sym before ∙ subst (λ n. IsTrue (unrolled n (NWeakYesterday a))) (sym e) v);
      fair = λ i d a b c v. unrolled_fair a b c i v;
    }

    pub loop_satisfies : Holds t (formula_of (pos_of f)) 0
    unfolding unrolled at index
    loop_satisfies = sound f t unrolled Always' follows (pos_of f) (closure_root f) 0 tt run.root
