-- A run that closes by an empty or a last state gives a trace that satisfies the formula.
use Rattle.std.proofs.Common.{◌≡◌, ℕ, zero, suc, ◌<◌, ◌≤◌, inl, inr, subst, arith, sym, refl, ◌∙◌, List, [], ◌∷◌, length, Contains, ◌&&◌, IsTrue, IsFalse}
use Rattle.std.proofs.Common.{lt-ltb}
use Rattle.std.proofs.lemmas.Bool.{cases_lt, and_parts, or_cases, cond-true}
use Rattle.ltl_syntax.specs.Formula.{Formula}
use Rattle.ltl_word.specs.declared.trace.Trace.{Trace}
use Rattle.ltl_word.specs.declared.trace.Trace.TheVariants.{Infinite, Finite}
use Rattle.ltl_word.specs.Trace.{IsPosition, Names, state_at}
use Rattle.ltl_word.specs.Holds.{Holds}
use Rattle.ltl_closure.specs.Norm.{Norm, NNext, NWeakNext, NYesterday, NWeakYesterday, NUntil, pos_of, formula_of}
use Rattle.ltl_closure.specs.Closure.{closure, nexts, is_next, is_yesterday, is_eventuality}
use Rattle.ltl_closure.specs.Run.{States, IsRun, val}
use Rattle.ltl_run.specs.TraceOf.{Shows, AreShown}
use Rattle.ltl_closure.proofs.Lists.{Contains-filter}
use Rattle.ltl_closure.proofs.Entries.{closure_root}
use Rattle.ltl_run.proofs.Shorter.{pending_to}
use Rattle.ltl_run.proofs.Looping.{until_request}
use Rattle.ltl_run.proofs.Sound.{sound}

module _ (f : Formula) (k : ℕ) (r : States) (run : IsRun f k r) (t : Trace) (all : (i : ℕ) → i ≤ k → IsPosition t i)
    (shown : (i : ℕ) → i ≤ k → Shows f (r i) (state_at t i))
    (strong : (a : Norm) → Contains (closure f) (NNext a) → IsTrue (r k (NNext a)) → ⊥)
    (weak : (a : Norm) → Contains (closure f) (NWeakNext a) → IsTrue (r k (NWeakNext a)) → IsPosition t (suc k) → ⊥) where
  next_at : (i : ℕ) → i ≤ k → (a : Norm) → Contains (closure f) (NNext a) → IsTrue (r i (NNext a)) → (suc i ≤ k) × IsTrue (val (r (suc i)) a)
  next_at i d a c v = elim (cases_lt i k) [
    | inl lt ↦ (omega arith, sym (run.next i lt (NNext a) (Contains-filter is_next (closure f) (NNext a) c refl)) ∙ v)
    | inr ge ↦ let e : i ≡ k = omega arith in absurd (strong a c (subst (λ n. IsTrue (r n (NNext a))) e v))
  ]

  weak_at : (i : ℕ) → i ≤ k → (a : Norm) → Contains (closure f) (NWeakNext a) → IsTrue (r i (NWeakNext a)) → IsPosition t (suc i)
      → (suc i ≤ k) × IsTrue (val (r (suc i)) a)
  weak_at i d a c v at = elim (cases_lt i k) [
    | inl lt ↦ (omega arith, sym (run.next i lt (NWeakNext a) (Contains-filter is_next (closure f) (NWeakNext a) c refl)) ∙ v)
    | inr ge ↦ let e : i ≡ k = omega arith in absurd (weak a c (subst (λ n. IsTrue (r n (NWeakNext a))) e v) (subst (λ n. IsPosition t (suc n)) e at))
  ]

  yesterday_at : (i : ℕ) → i ≤ k → (a : Norm) → Contains (closure f) (NYesterday a) → IsTrue (r i (NYesterday a))
      → (j : ℕ) × (suc j ≡ i) × (j ≤ k) × IsTrue (val (r j) a)
  yesterday_at zero d a c v = let x = run.yesterday a c in cc
  yesterday_at (suc i) d a c v =
      (i, refl, omega arith, sym (run.before i (omega arith) (NYesterday a) (Contains-filter is_yesterday (closure f) (NYesterday a) c refl)) ∙ v)

  fair_at : (i : ℕ) → i ≤ k → (a b : Norm) → Contains (closure f) (NUntil a b) → IsTrue (val (r i) (NUntil a b)) → (j : ℕ) × (i ≤ j) × IsTrue (val (r j) b)
  fair_at i d a b c v = elim (or_cases (val (r i) b) (val (r i) a && r i (NNext (NUntil a b))) v) [
    | inl now ↦ (i, omega arith, now)
    | inr both ↦
        let e = Contains-filter is_eventuality (closure f) (NUntil a b) c refl in
        elim (pending_to f k r run (NUntil a b) e i k d (omega arith) (and_parts (val (r i) a) (r i (NNext (NUntil a b))) both).1) [
          | inl w ↦ (w.0, omega arith, w.3)
          | inr p ↦ absurd (strong (NUntil a b) (request c) p)
        ]
  ]
    where
      request : Contains (closure f) (NUntil a b) → Contains (closure f) (NNext (NUntil a b))
      request c = until_request f a b c

  pub ending_satisfies : Holds t (formula_of (pos_of f)) 0
  ending_satisfies = sound f t r (λ i. i ≤ k) (record {
    position = all;
    letters = λ i d p c. (shown i d).letters p c;
    next = next_at;
    weak_next = weak_at;
    yesterday = yesterday_at;
    weak_yesterday = λ i d a c v j e.
        let before = run.before j (omega arith) (NWeakYesterday a) (Contains-filter is_yesterday (closure f) (NWeakYesterday a) c refl) in
        (omega arith, sym before ∙ subst (λ n. IsTrue (r n (NWeakYesterday a))) (sym e) v);
    fair = fair_at;
  }) (pos_of f) (closure_root f) 0 (omega arith) run.root

pub empty_satisfies : (f : Formula) (k : ℕ) (r : States) → IsRun f k r → ((e : Norm) → Contains (nexts f) e → IsFalse (r k e)) → (stem : List Names)
    → AreShown f r k stem → Holds (Infinite stem ([] ∷ [])) (formula_of (pos_of f)) 0
empty_satisfies f k r run none stem shown =
    ending_satisfies f k r run (Infinite stem ([] ∷ [])) (λ i h. tt)
    (λ i h. let n = shown.states_length in let s : i < length stem = omega arith in
    subst (Shows f (r i)) (sym (cond-true _ _ _ (lt-ltb i (length stem) s))) (shown.first i h))
    (λ a c v. let x = none (NNext a) (Contains-filter is_next (closure f) (NNext a) c refl) in cc)
    (λ a c v at. let x = none (NWeakNext a) (Contains-filter is_next (closure f) (NWeakNext a) c refl) in cc)

pub end_satisfies : (f : Formula) (k : ℕ) (r : States) → IsRun f k r → ((a : Norm) → Contains (closure f) (NNext a) → IsFalse (r k (NNext a)))
    → (states : List Names) → AreShown f r k states → Holds (Finite states) (formula_of (pos_of f)) 0
end_satisfies f k r run none states shown =
    ending_satisfies f k r run (Finite states) (λ i h. let n = shown.states_length in omega arith)
    shown.first
    (λ a c v. let x = none a c in cc)
    (λ a c v at. let n = shown.states_length in omega arith)
