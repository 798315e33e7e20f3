-- Runs as sequences of states.
use Rattle.std.proofs.Common.{◌≡◌, ℕ, zero, suc, ◌+◌, ◌-◌, ◌<◌, ◌≤◌, Bool, true, false, IsTrue, inl, inr, refl, sym, ap, subst, ◌∙◌, arith, Contains}
use Rattle.std.proofs.Common.{if◌then◌else◌}
use Rattle.std.specs.Prelude.{nat_lt}
use Rattle.std.proofs.lemmas.Bool.{cases_lt, cond-true, cond-false, lt-ltb, le-ltb}
use Rattle.ltl_syntax.specs.declared.node.Kind.TheVariants as Kinds
use Rattle.ltl_syntax.specs.Formula.{Formula}
use Rattle.ltl_closure.specs.Norm.{Norm}
use Rattle.ltl_closure.specs.Closure.{eventualities}
use Rattle.ltl_closure.specs.Run.{States, IsRun, IsAccepted, End, is_pending}
use Rattle.ltl_run.proofs.Carry.{OneCarry-from}
use Rattle.claims.specs.Sequences.{IsFirst, AreLinked, IsLast, IsMet, AreEnding, place_at, unrolled}
use Rattle.claims.specs.Laws.{RunsAreSequences, RunsUnroll, RunsEnd}

run_first : (f : Formula) (k : ℕ) (r : States) → IsRun f k r → IsFirst f (r 0)
run_first f k r run = record { root = run.root; yesterday = run.yesterday; weak_yesterday = run.weak_yesterday }

run_linked : (f : Formula) (k : ℕ) (r : States) → IsRun f k r → (i : ℕ) → i < k → AreLinked f (r i) (r (suc i))
run_linked f k r run i lt = record { next = run.next i lt; before = run.before i lt }

module _ (l k : ℕ) (less : l < k) where
  place_low : (i : ℕ) → place_at l k i < k → place_at l k (suc i) ≡ suc (place_at l k i)
  place_low i lt = cond-true _ _ _ (lt-ltb (place_at l k i) k lt)

  place_high : (i : ℕ) → k ≤ place_at l k i → place_at l k (suc i) ≡ suc l
  place_high i le = cond-false _ _ _ (le-ltb (place_at l k i) k le)

  place_within : (i : ℕ) → place_at l k i ≤ k
  place_within zero = omega arith
  place_within (suc i) = elim (cases_lt (place_at l k i) k) [
    | inl low ↦ let e = place_low i low in subst (λ n. n ≤ k) (sym e) (omega arith)
    | inr high ↦ let e = place_high i high in subst (λ n. n ≤ k) (sym e) (omega arith)
  ]

  -- the places go up to k
  reach : (d i : ℕ) → place_at l k i + d ≤ k → (j : ℕ) × (j ≡ i + d) × (place_at l k j ≡ place_at l k i + d)
  reach zero i le = (i, omega arith, omega arith)
  reach (suc d) i le =
      let w = reach d i (omega arith) in
      let at = w.2 in
      let low : place_at l k w.0 < k = omega (arith, at, le) in
      let up = place_low w.0 low in
      let n = w.1 in
      (suc w.0, omega (arith, n), omega (arith, up, at))

  last_place : (i : ℕ) → (j : ℕ) × (i ≤ j) × (place_at l k j ≡ k)
  last_place i =
      let inside = place_within i in
      let w = reach (k - place_at l k i) i (omega (arith, inside)) in
      let n = w.1 in
      let at = w.2 in
      (w.0, omega (arith, n), omega (arith, at, inside))

  -- each place behind l comes again
  comes_again : (i n : ℕ) → l < n → n ≤ k → (j : ℕ) × (i < j) × (place_at l k j ≡ n)
  comes_again i n lt le =
      let a = last_place i in
      let a1 = a.1 in
      let a2 = a.2 in
      let back = place_high a.0 (omega (arith, a2)) in
      let w = reach (n - suc l) (suc a.0) (omega (arith, back, lt, le)) in
      let n1 = w.1 in
      let at = w.2 in
      (w.0, omega (arith, n1, a1), omega (arith, at, back, lt))

pub runs_unroll : RunsUnroll
runs_unroll f k l r run closes = (run_first f k r run, record { linked = linked; met = λ e m i. go e m i (is_pending (r k) e) refl })
  where
    turn : AreLinked f (r k) (r (suc l))
    turn =
        let c = OneCarry-from f (r l) (r k) closes.one in
        record { next = λ e m. sym (c.next e m) ∙ run.next l closes.earlier e m; before = λ e m. run.before l closes.earlier e m ∙ c.before e m }

    linked : (i : ℕ) → AreLinked f (unrolled r l k i) (unrolled r l k (suc i))
    linked i = elim (cases_lt (place_at l k i) k) [
      | inl low ↦ subst (λ n. AreLinked f (r (place_at l k i)) (r n)) (sym (place_low l k closes.earlier i low)) (run_linked f k r run (place_at l k i) low)
      | inr high ↦
          let inside = place_within l k closes.earlier i in
          let here : k ≡ place_at l k i = omega (arith, high, inside) in
          subst (λ n. AreLinked f (r (place_at l k i)) (r n)) (sym (place_high l k closes.earlier i high))
          (subst (λ n. AreLinked f (r n) (r (suc l))) here turn)
    ]

    go : (e : Norm) → Contains (eventualities f) e → (i : ℕ) → (b : Bool) → is_pending (r k) e ≡ b → (j : ℕ) × (i < j) × IsMet (unrolled r l k j) e
    go e m i true is =
        let w = closes.fulfilled e m is in
        let j = comes_again l k closes.earlier i w.0 w.1 w.2 in
        (j.0, j.1, subst (λ n. IsMet (r n) e) (sym j.2) (λ h. w.3))
    go e m i false is =
        let j = comes_again l k closes.earlier i k closes.earlier (omega arith) in
        (j.0, j.1, subst (λ n. IsMet (r n) e) (sym j.2) (λ h. absurd (clash (is_pending (r k) e) h is)))
      where
        clash : (a : Bool) → IsTrue a → a ≡ false → ⊥
        clash a h n = cc

-- the states up to k, which is repeated: for what is said of all numbers
abbrev pub repeated : States → ℕ → States
repeated r k i = if nat_lt i k then r i else r k

repeated_low : (r : States) (k i : ℕ) → i < k → repeated r k i ≡ r i
repeated_low r k i lt = cond-true _ _ _ (lt-ltb i k lt)

repeated_high : (r : States) (k i : ℕ) → k ≤ i → repeated r k i ≡ r k
repeated_high r k i le = cond-false _ _ _ (le-ltb i k le)

pub repeated_to : (r : States) (k i : ℕ) → i ≤ k → repeated r k i ≡ r i
repeated_to r k i le = elim (cases_lt i k) [
  | inl lt ↦ repeated_low r k i lt
  | inr ge ↦ let e : k ≡ i = omega arith in repeated_high r k i ge ∙ ap r e
]

module _ (f : Formula) (k : ℕ) (u : States) (ending : AreEnding f k u) where
  pub repeated_linked : (i : ℕ) → i < k → AreLinked f (repeated u k i) (repeated u k (suc i))
  repeated_linked i lt =
      subst (λ s. AreLinked f s (repeated u k (suc i))) (sym (repeated_low u k i lt))
      (subst (λ s. AreLinked f (u i) s) (sym (repeated_to u k (suc i) (omega arith))) (ending.linked i lt))

  pub repeated_last : (i : ℕ) → k ≤ i → IsLast f (repeated u k i)
  repeated_last i le = subst (IsLast f) (sym (repeated_high u k i le)) ending.last

pub runs_are_sequences : RunsAreSequences
runs_are_sequences f k r = (λ run. (run_first f k r run, run_linked f k r run), λ w. made w.0 w.1)
  where
    made : IsFirst f (r 0) → ((i : ℕ) → i < k → AreLinked f (r i) (r (suc i))) → IsRun f k r
    made head links = record {
      root = head.root;
      yesterday = head.yesterday;
      weak_yesterday = head.weak_yesterday;
      next = λ i lt. (links i lt).next;
      before = λ i lt. (links i lt).before;
    }

ended : (f : Formula) (r : States) (k : ℕ) → IsAccepted f r k Kinds.Finite → IsLast f (r k)
ended f r k (End none) = none

pub runs_end : RunsEnd
runs_end f k r = (
  λ w. (run_first f k r w.0, record { linked = run_linked f k r w.0; last = ended f r k w.1 }),
  λ w. ((runs_are_sequences f k r).1 (w.0, w.1.linked), End w.1.last),
)
