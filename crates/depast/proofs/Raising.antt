-- Each trace is lifted to one of its kind, and each is lowered to one.
use Rattle.std.proofs.Common.{◌≡◌, ℕ, zero, suc, ◌+◌, ◌-◌, ◌*◌, ◌/◌, ◌%◌, ◌^◌, ◌<◌, ◌≤◌, inl, inr, ◌↔◌, refl, sym, ◌∙◌, ap, subst, arith, false, List, [], ◌∷◌}
use Rattle.std.proofs.Common.{length, map, slice_index_or, le-ltb, lt-ltb, Contains}
use Rattle.std.specs.List.{range_with_len}
use Rattle.std.proofs.lemmas.List.FromFn.{get_or-map-range_with_len, length-map-range_with_len}
use Rattle.std.proofs.lemmas.Bool.{cases_lt, cond-true, cond-false}
use Rattle.std.proofs.lemmas.Nat.{div-add-mod'}
use Rattle.std.proofs.Math.Nat.{mod-lt}
use Rattle.ltl_syntax.specs.declared.node.Kind.{Kind}
use Rattle.ltl_syntax.specs.declared.node.Kind.TheVariants as Kinds
use Rattle.ltl_syntax.specs.Formula.{Formula, Const, Letter, Name}
use Rattle.ltl_word.specs.declared.trace.Trace.{Trace}
use Rattle.ltl_word.specs.declared.trace.Trace.TheVariants.{Infinite, Finite}
use Rattle.ltl_word.specs.Trace.{Names, IsTrace, IsOfKind, state_at}
use Rattle.ltl_word.specs.Claims.{Claim}
use Rattle.ltl_word.specs.Holds.{Holds}
use Rattle.ltl_word.specs.Depth.{past_depth}
use Rattle.ltl_word.proofs.Repeats.{Repeats}
use Rattle.ltl_word.proofs.Periodicity.{Holds-repeats}
use Rattle.ltl_word.proofs.Decided.{Holds_decided}
use Rattle.depast.specs.Names.{most_leading, new_name}
use Rattle.depast.specs.Depast.{taken}
use Rattle.depast.specs.Lifting.{meanings, IsOld, IsLifted, IsLowered}
use Rattle.depast.proofs.Shallow.{meaning_shallow}
use Rattle.depast.proofs.StatesWith.{state_with, with_old, with_new, kept, kept_from, kept_has}

-- what repeats holds at a position where it holds at the place of the first loop that it comes to
module _ (A : Claim) (p n : ℕ) (some : 0 < p) (r : Repeats A p n) where
  loops_on : (m j : ℕ) → n ≤ j → A j ↔ A (j + m * p)
  loops_on zero j h = let e : j + 0 * p ≡ j = omega arith in (λ a. subst A (sym e) a, λ a. subst A e a)
  loops_on (suc m) j h =
      let w = loops_on m j h in
      let e : j + m * p + p ≡ j + suc m * p = omega arith in
      let le : n ≤ j + m * p = omega arith in
      (λ a. subst A e (r.later (j + m * p) le (w.0 a)), λ a. w.1 (r.earlier (j + m * p) le (subst A (sym e) a)))

  pub first_loop : (i : ℕ) → n ≤ i → A (n + (i - n) % p) ↔ A i
  first_loop i h =
      let q = (i - n) / p in
      let d = div-add-mod' (i - n) p in
      let e : n + (i - n) % p + (i - n) / p * p ≡ i = omega arith in
      let w = loops_on ((i - n) / p) (n + (i - n) % p) (omega arith) in
      (λ a. subst A e (w.0 a), λ a. w.1 (subst A (sym e) a))

module _ (f : Formula) where
  abbrev meaning : ℕ → Formula
  meaning k = slice_index_or (meanings f) k (Const false)

  -- the lifted state at a number
  module _ (t : Trace) (good : IsTrace t) where
    abbrev Meant : ℕ → ℕ → Type 0
    Meant i k = Holds t (meaning k) i

    pub lifted_state : ℕ → Names
    lifted_state i = state_with f (Meant i) (λ k. Holds_decided t good (meaning k) i) (state_at t i)

    pub lifted_old : (i : ℕ) (name : List ℕ) → IsOld f name → Contains (lifted_state i) name ↔ Contains (state_at t i) name
    unfolding lifted_state
    lifted_old i name old = with_old f (Meant i) (λ k. Holds_decided t good (meaning k) i) (state_at t i) name old

    pub lifted_new : taken f ≤ 2 ^ 64 → (i k : ℕ) → k < taken f → Contains (lifted_state i) (new_name (most_leading f) k) ↔ Holds t (meaning k) i
    unfolding lifted_state
    lifted_new few i k lt = with_new f (Meant i) (λ k. Holds_decided t good (meaning k) i) few (state_at t i) k lt

  -- states from number a on, n of them
  pub states_of : (ℕ → Names) → ℕ → ℕ → List Names
  states_of s a n = map s (range_with_len a n)

  pub state_of : (s : ℕ → Names) (a n i : ℕ) → i < n → slice_index_or (states_of s a n) i [] ≡ s (a + i)
  unfolding states_of
  state_of s a n i lt = get_or-map-range_with_len s a n i (a + i) [] lt refl

  pub length-states_of : (s : ℕ → Names) (a n : ℕ) → length (states_of s a n) ≡ n
  unfolding states_of
  length-states_of s a n = length-map-range_with_len s a n

  module _ (few : taken f ≤ 2 ^ 64) where
    finite_lifted : (states : List Names) (good : 0 < length states)
        → IsLifted f (Finite states) (Finite (states_of (lifted_state (Finite states) good) 0 (length states)))
    finite_lifted states good =
        let s : ℕ → Names = lifted_state (Finite states) good in
        record {
          shape = length-states_of (lifted_state (Finite states) good) 0 (length states);
          old_names = λ i at name old.
              let e : slice_index_or (states_of (lifted_state (Finite states) good) 0 (length states)) i [] ≡ lifted_state (Finite states) good i =
              state_of (lifted_state (Finite states) good) 0 (length states) i at ∙ ap (lifted_state (Finite states) good) (omega arith) in
              subst (λ x. Contains x name ↔ Contains (slice_index_or states i []) name) (sym e) (lifted_old (Finite states) good i name old);
          new_names = λ i at k lt. let e : slice_index_or (states_of (lifted_state (Finite states) good) 0 (length states)) i [] ≡ lifted_state (Finite states)
              good i = state_of (lifted_state (Finite states) good) 0 (length states) i at ∙ ap (lifted_state (Finite states) good) (omega arith) in
              subst (λ x. Contains x (new_name (most_leading f) k) ↔ Holds (Finite states) (meaning k) i) (sym e) (lifted_new (Finite states) good few i k lt);
        }

    module _ (stem loop_part : List Names) (some : 0 < length loop_part) where
      abbrev p : ℕ
      p = length loop_part

      abbrev n : ℕ
      n = length stem + past_depth f * length loop_part

      abbrev s : ℕ → Names
      s = lifted_state (Infinite stem loop_part) some

      abbrev u : Trace
      u = Infinite (states_of s 0 n) (states_of s n p)

      -- the lifted trace's state at a position is the lifted state there, or in the first loop
      early : (i : ℕ) → i < n → state_at u i ≡ s i
      early i lt =
          let l : length (states_of s 0 n) ≡ n = length-states_of s 0 n in
          cond-true _ _ _ (lt-ltb i (length (states_of s 0 n)) (omega arith)) ∙ (state_of s 0 n i lt ∙ ap s (omega arith))

      late : (i : ℕ) → n ≤ i → state_at u i ≡ s (n + (i - n) % p)
      late i ge =
          let l : length (states_of s 0 n) ≡ n = length-states_of s 0 n in
          let m : length (states_of s n p) ≡ p = length-states_of s n p in
          cond-false _ _ _ (le-ltb i (length (states_of s 0 n)) (omega arith))
          ∙ (ap (λ x. slice_index_or (states_of s n p) ((i - x) % length (states_of s n p)) []) l
          ∙ (ap (λ x. slice_index_or (states_of s n p) ((i - n) % x) []) m
          ∙ state_of s n p ((i - n) % p) (mod-lt (i - n) some)))

      -- a claim of the trace that repeats, and that the lifted states tell, is told by the lifted trace
      told : (name : List ℕ) (A : Claim) → Repeats A p n → ((i : ℕ) → Contains (s i) name ↔ A i) → (i : ℕ) → Contains (state_at u i) name ↔ A i
      told name A r h i = elim (cases_lt i n) [
        | inl lt ↦ subst (λ x. Contains x name ↔ A i) (sym (early i lt)) (h i)
        | inr ge ↦
            let w = h (n + (i - n) % p) in
            let v = first_loop A p n some r i ge in
            let y : Contains (s (n + (i - n) % p)) name ↔ A i = (λ c. v.0 (w.0 c), λ a. w.1 (v.1 a)) in
            subst (λ x. Contains x name ↔ A i) (sym (late i ge)) y
      ]

      infinite_lifted : IsLifted f (Infinite stem loop_part) u
      infinite_lifted = record {
        shape = (length-states_of s 0 n, length-states_of s n p);
        old_names = λ i at name old. told name (λ j. Contains (state_at (Infinite stem loop_part) j) name)
            (Holds-repeats stem loop_part some (Letter (Name name)) (past_depth f) (omega arith)) (λ j. lifted_old (Infinite stem loop_part) some j name old) i;
        new_names = λ i at k lt. told (new_name (most_leading f) k) (Holds (Infinite stem loop_part) (meaning k))
            (Holds-repeats stem loop_part some (meaning k) (past_depth f) (meaning_shallow f k)) (λ j. lifted_new (Infinite stem loop_part) some few j k lt) i;
      }

    pub lifted : (t : Trace) (kind : Kind) → IsTrace t → IsOfKind t kind → (u : Trace) × IsTrace u × IsOfKind u kind × IsLifted f t u
    lifted (Finite states) Kinds.Finite good is =
        let l = length-states_of (lifted_state (Finite states) good) 0 (length states) in
        (Finite (states_of (lifted_state (Finite states) good) 0 (length states)), omega arith, tt, finite_lifted states good)
    lifted (Infinite stem loop_part) Kinds.Infinite good is =
        let l = length-states_of (lifted_state (Infinite stem loop_part) good) (length stem + past_depth f * length loop_part) (length loop_part) in
        (u stem loop_part good, omega arith, tt, infinite_lifted stem loop_part good)
    lifted (Finite states) Kinds.Infinite good is = absurd is
    lifted (Infinite stem loop_part) Kinds.Finite good is = absurd is

  -- the lowered trace: each state without the new names
  lowered_state : (u : Trace) → ℕ → Names
  lowered_state u i = kept f (state_at u i)

  finite_lowered : (states : List Names) → IsLowered f (Finite states) (Finite (states_of (lowered_state (Finite states)) 0 (length states)))
  unfolding lowered_state
  finite_lowered states = record {
    shape = length-states_of (lowered_state (Finite states)) 0 (length states);
    old_names = λ i at name old.
        subst (λ x. Contains x name ↔ Contains (slice_index_or states i []) name)
        (sym (state_of (lowered_state (Finite states)) 0 (length states) i at ∙ ap (lowered_state (Finite states)) (omega arith)))
        (λ h. (kept_from f (slice_index_or states i []) name h).0, λ h. kept_has f (slice_index_or states i []) name h old);
    new_names = λ i at k lt h.
        (kept_from f (slice_index_or states i []) (new_name (most_leading f) k) (subst (λ x. Contains x (new_name (most_leading f) k))
        (state_of (lowered_state (Finite states)) 0 (length states) i at ∙ ap (lowered_state (Finite states)) (omega arith)) h)).1 k lt refl;
  }

  module _ (stem loop_part : List Names) (some : 0 < length loop_part) where
    abbrev low : List Names → List Names
    low states = map (kept f) states

    low_at : (xs : List Names) (i : ℕ) → i < length xs → slice_index_or (low xs) i [] ≡ kept f (slice_index_or xs i [])
    low_at [] i lt = absurd (omega arith)
    low_at (x ∷ xs) zero lt = refl
    low_at (x ∷ xs) (suc i) lt = low_at xs i (omega arith)

    length-low : (xs : List Names) → length (low xs) ≡ length xs
    length-low [] = refl
    length-low (x ∷ xs) = ap suc (length-low xs)

    low_state : (i : ℕ) → state_at (Infinite (low stem) (low loop_part)) i ≡ kept f (state_at (Infinite stem loop_part) i)
    low_state i =
        let l = length-low stem in
        let m = length-low loop_part in
        elim (cases_lt i (length stem)) [
          | inl lt ↦
              cond-true _ _ _ (lt-ltb i (length (low stem)) (omega arith))
              ∙ (low_at stem i lt ∙ ap (kept f) (sym (cond-true _ _ _ (lt-ltb i (length stem) lt))))
          | inr ge ↦
              cond-false _ _ _ (le-ltb i (length (low stem)) (omega arith))
              ∙ (ap (λ x. slice_index_or (low loop_part) ((i - x) % length (low loop_part)) []) l
              ∙ (ap (λ x. slice_index_or (low loop_part) ((i - length stem) % x) []) m
              ∙ (low_at loop_part ((i - length stem) % length loop_part) (mod-lt (i - length stem) some)
              ∙ ap (kept f) (sym (cond-false _ _ _ (le-ltb i (length stem) ge))))))
        ]

    infinite_lowered : IsLowered f (Infinite stem loop_part) (Infinite (low stem) (low loop_part))
    infinite_lowered = record {
      shape = (let l = length-low stem in omega arith, length-low loop_part);
      old_names = λ i at name old.
          subst (λ x. Contains x name ↔ Contains (state_at (Infinite stem loop_part) i) name) (sym (low_state i))
          (λ h. (kept_from f (state_at (Infinite stem loop_part) i) name h).0, λ h. kept_has f (state_at (Infinite stem loop_part) i) name h old);
      new_names = λ i at k lt h. (kept_from f (state_at (Infinite stem loop_part) i) (new_name (most_leading f) k)
          (subst (λ x. Contains x (new_name (most_leading f) k)) (low_state i) h)).1 k lt refl;
    }

  pub lowered : (u : Trace) (kind : Kind) → IsTrace u → IsOfKind u kind → (t : Trace) × IsTrace t × IsOfKind t kind × IsLowered f u t
  lowered (Finite states) Kinds.Finite good is =
      let l = length-states_of (lowered_state (Finite states)) 0 (length states) in
      (Finite (states_of (lowered_state (Finite states)) 0 (length states)), omega arith, tt, finite_lowered states)
  lowered (Infinite stem loop_part) Kinds.Infinite good is =
      let l = length-low stem loop_part good loop_part in
      (Infinite (map (kept f) stem) (map (kept f) loop_part), omega arith, tt, infinite_lowered stem loop_part good)
  lowered (Finite states) Kinds.Infinite good is = absurd is
  lowered (Infinite stem loop_part) Kinds.Finite good is = absurd is
