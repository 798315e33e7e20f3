-- Each trace has an extension by the values of the replaced occurrences. On an infinite trace these repeat with the loop only after some loops, so
-- the stem takes that many loops in.
use Rattle.std.proofs.Common.{◌≡◌, ℕ, zero, suc, ◌+◌, ◌-◌, ◌*◌, ◌/◌, ◌%◌, ◌^◌, ◌<◌, ◌≤◌, ◌↔◌, inl, inr, subst, ap, ap₂, arith, sym, refl, ◌∙◌, List, [], ◌∷◌}
use Rattle.std.proofs.Common.{length, get_or, Contains, lt-ltb, le-ltb}
use Rattle.std.proofs.Math.Nat.{mod-lt}
use Rattle.std.proofs.lemmas.Nat.{div-add-mod'}
use Rattle.std.proofs.lemmas.Bool.{cases_lt, cond-true, cond-false}
use Rattle.std.proofs.lemmas.List.Elements.{All-get_or}
use Rattle.ltl_syntax.specs.declared.node.Kind.{Kind}
use Rattle.ltl_syntax.specs.declared.node.Kind.TheVariants as Kinds
use Rattle.ltl_syntax.specs.Formula.{Fresh, Formula, nodes_in}
use Rattle.ltl_syntax.specs.Table.{IsPlain}
use Rattle.ltl_word.specs.declared.trace.Trace.{Trace}
use Rattle.ltl_word.specs.declared.trace.Trace.TheVariants.{Infinite, Finite}
use Rattle.ltl_word.specs.Trace.{Names, IsTrace, IsOfKind, IsPosition, state_at}
use Rattle.ltl_word.specs.Claims.{Claim}
use Rattle.ltl_word.specs.Holds.{Holds, Satisfies, name_of}
use Rattle.ltl_word.specs.Depth.{past_depth}
use Rattle.ltl_word.proofs.Repeats.{Repeats}
use Rattle.ltl_word.proofs.Periodicity.{state-repeats, Holds-repeats}
use Rattle.ltl_syntax.specs.Replacement.{Places, replaced, rep}
use Rattle.ltl_run.specs.Extension.{IsOriginal, IsLonger, IsExtension}
use Rattle.ltl_run.proofs.Agreeing.{Stand, rep_agrees}
use Rattle.ltl_run.proofs.Shallow.{IsShallow, replaced_shallow, replaced_few}
use Rattle.ltl_run.proofs.Chosen.{extended, extended_plain, extended_fresh}

-- ---- lists of states

module _ (s : ℕ → Names) where
  -- this many states from one on
  pub states_from : ℕ → ℕ → List Names
  states_from at zero = []
  states_from at (suc n) = s at ∷ states_from (suc at) n

  pub length-states_from : (at n : ℕ) → length (states_from at n) ≡ n
  unfolding states_from
  length-states_from at zero = refl
  length-states_from at (suc n) = ap suc (length-states_from (suc at) n)

  pub get_or-states_from : (n at k : ℕ) → k < n → get_or (states_from at n) k [] ≡ s (at + k)
  unfolding states_from
  get_or-states_from zero at k lt = absurd (omega arith)
  get_or-states_from (suc n) at zero lt = let here : at ≡ at + zero = omega arith in ap s here
  get_or-states_from (suc n) at (suc k) lt = let here : suc at + k ≡ at + suc k = omega arith in get_or-states_from n (suc at) k (omega arith) ∙ ap s here

state_low : (xs ys : List Names) (i : ℕ) → i < length xs → state_at (Infinite xs ys) i ≡ get_or xs i []
state_low xs ys i lt = cond-true _ _ _ (lt-ltb i (length xs) lt)

state_high : (xs ys : List Names) (i : ℕ) → length xs ≤ i → state_at (Infinite xs ys) i ≡ get_or ys ((i - length xs) % length ys) []
state_high xs ys i le = cond-false _ _ _ (le-ltb i (length xs) le)

-- ---- a claim that repeats is the same at the same place of the first loop

module _ (A : Claim) (p n : ℕ) (r : Repeats A p n) where
  loops_on : (q i : ℕ) → n ≤ i → A i → A (i + q * p)
  loops_on zero i le a = let here : i ≡ i + zero * p = omega arith in subst A here a
  loops_on (suc q) i le a = let here : i + q * p + p ≡ i + suc q * p = omega arith in subst A here (r.later (i + q * p) (omega arith) (loops_on q i le a))

  loops_back : (q i : ℕ) → n ≤ i → A (i + q * p) → A i
  loops_back zero i le a = let here : i + zero * p ≡ i = omega arith in subst A here a
  loops_back (suc q) i le a = let here : i + suc q * p ≡ i + q * p + p = omega arith in loops_back q i le (r.earlier (i + q * p) (omega arith) (subst A here a))

  whole : (i q m : ℕ) → n ≤ i → q + m ≡ i - n → n + m + q ≡ i
  whole i q m le e = omega arith

  pub in_first_loop : (i : ℕ) → n ≤ i → A (n + (i - n) % p) ↔ A i
  in_first_loop i le =
      let e : n + (i - n) % p + (i - n) / p * p ≡ i = whole i ((i - n) / p * p) ((i - n) % p) le (div-add-mod' (i - n) p) in
      let le' : n ≤ n + (i - n) % p = first_le ((i - n) % p) in
      (λ a. subst A e (loops_on ((i - n) / p) (n + (i - n) % p) le' a), λ a. loops_back ((i - n) / p) (n + (i - n) % p) le' (subst A (sym e) a))
    where
      first_le : (m : ℕ) → n ≤ n + m
      first_le m = omega arith

-- ---- the extension of an infinite trace

module _ (stem loop_part : List Names) (some : 0 < length loop_part) (f : Formula) (P : Places) (few : nodes_in f ≤ 2 ^ 64) where
  abbrev t : Trace
  t = Infinite stem loop_part

  abbrev gs : List Formula
  gs = replaced f P

  abbrev p : ℕ
  p = length loop_part

  abbrev first : ℕ
  first = length stem + past_depth f * length loop_part

  abbrev state : ℕ → Names
  state i = extended t some i gs

  abbrev first_part : List Names
  first_part = states_from state 0 first

  abbrev second_part : List Names
  second_part = states_from state first p

  pub lasso : Trace
  lasso = Infinite first_part second_part

  low : (i : ℕ) → i < first → state_at (Infinite first_part second_part) i ≡ state i
  low i lt =
      let e = length-states_from state 0 first in
      let here : 0 + i ≡ i = omega arith in
      state_low first_part second_part i (subst (λ m. i < m) (sym e) lt) ∙ (get_or-states_from state first 0 i lt ∙ ap state here)

  high : (i : ℕ) → first ≤ i → state_at (Infinite first_part second_part) i ≡ state (first + (i - first) % p)
  high i le =
      let e = length-states_from state 0 first in
      let e' = length-states_from state first p in
      state_high first_part second_part i (subst (λ m. m ≤ i) (sym e) le)
      ∙ (ap₂ (λ a b. get_or second_part ((i - a) % b) []) e e' ∙ get_or-states_from state p first ((i - first) % p) (mod-lt (i - first) some))

  Plain-repeats : (name : List ℕ) → Repeats (λ i. Contains (state_at t i) name) p first
  Plain-repeats name = record {
    later = λ i le a. subst (λ s. Contains s name) (sym (state-repeats stem loop_part some i (omega arith))) a;
    earlier = λ i le a. subst (λ s. Contains s name) (state-repeats stem loop_part some i (omega arith)) a;
  }

  Part-repeats : (n : ℕ) → n < length gs → Repeats (Holds t (get_or gs n f)) p first
  Part-repeats n lt = Holds-repeats stem loop_part some (get_or gs n f) (past_depth f)
      (All-get_or (IsShallow P (past_depth f)) gs n f lt (replaced_shallow P (past_depth f) f 0 (omega arith)))

  gs_few : length gs ≤ 2 ^ 64
  gs_few = let d = replaced_few P f 0 in omega arith

  lasso_named : (i : ℕ) (name : List ℕ) → IsPlain name → Contains (state_at (Infinite first_part second_part) i) name ↔ Contains (state_at t i) name
  lasso_named i name plain = elim (cases_lt i first) [
    | inl lt ↦ subst (λ s. Contains s name ↔ Contains (state_at t i) name) (sym (low i lt)) (extended_plain t some i gs name plain)
    | inr le ↦
        let m = first + (i - first) % p in
        let here = extended_plain t some m gs name plain in
        let moved = in_first_loop (λ j. Contains (state_at t j) name) p first (Plain-repeats name) i le in
        subst (λ s. Contains s name ↔ Contains (state_at t i) name) (sym (high i le)) (λ c. moved.0 (here.0 c), λ c. here.1 (moved.1 c))
  ]

  lasso_fresh : (i n : ℕ) → n < length gs → Contains (state_at (Infinite first_part second_part) i) (name_of (Fresh n)) ↔ Holds t (get_or gs n f) i
  lasso_fresh i n lt = elim (cases_lt i first) [
    | inl before ↦ subst (λ s. Contains s (name_of (Fresh n)) ↔ Holds t (get_or gs n f) i) (sym (low i before)) (extended_fresh t some i gs n f gs_few lt)
    | inr le ↦
        let m = first + (i - first) % p in
        let here = extended_fresh t some m gs n f gs_few lt in
        let moved = in_first_loop (Holds t (get_or gs n f)) p first (Part-repeats n lt) i le in
        subst (λ s. Contains s (name_of (Fresh n)) ↔ Holds t (get_or gs n f) i) (sym (high i le)) (λ c. moved.0 (here.0 c), λ c. here.1 (moved.1 c))
  ]

  pub lasso_extends : IsExtension f P t lasso
  unfolding lasso
  lasso_extends = record {
    longer = (length-states_from state 0 first, length-states_from state first p);
    named = λ i name at plain. lasso_named i name plain;
    fresh = λ i n at lt. lasso_fresh i n lt;
  }

-- ---- the extension of a finite trace

module _ (states : List Names) (some : 0 < length states) (f : Formula) (P : Places) (few : nodes_in f ≤ 2 ^ 64) where
  abbrev shown : ℕ → Names
  shown i = extended (Finite states) some i (replaced f P)

  pub word : Trace
  word = Finite (states_from shown 0 (length states))

  at_place : (i : ℕ) → i < length states → state_at (Finite (states_from shown 0 (length states))) i ≡ shown i
  at_place i lt = let here : 0 + i ≡ i = omega arith in get_or-states_from shown (length states) 0 i lt ∙ ap shown here

  word_few : length (replaced f P) ≤ 2 ^ 64
  word_few = let d = replaced_few P f 0 in omega arith

  pub word_extends : IsExtension f P (Finite states) word
  unfolding word
  word_extends = record {
    longer = length-states_from shown 0 (length states);
    named = λ i name at plain. subst (λ s. Contains s name ↔ Contains (state_at (Finite states) i) name) (sym (at_place i at))
        (extended_plain (Finite states) some i (replaced f P) name plain);
    fresh = λ i n at lt. subst (λ s. Contains s (name_of (Fresh n)) ↔ Holds (Finite states) (get_or (replaced f P) n f) i) (sym (at_place i at))
        (extended_fresh (Finite states) some i (replaced f P) n f word_few lt);
  }

-- ---- what extensions are

pub trace_extends : (f : Formula) (P : Places) (t : Trace) → nodes_in f ≤ 2 ^ 64 → IsTrace t → (u : Trace) × IsExtension f P t u
trace_extends f P (Infinite stem loop_part) few some = (lasso stem loop_part some f P few, lasso_extends stem loop_part some f P few)
trace_extends f P (Finite states) few some = (word states some f P few, word_extends states some f P few)

longer_trace : (h : ℕ) (t u : Trace) → IsLonger h t u → IsTrace t → IsTrace u
longer_trace h (Infinite stem loop_part) (Infinite stem' loop_part') w some = let e = w.1 in omega arith
longer_trace h (Infinite stem loop_part) (Finite states') w some = absurd w
longer_trace h (Finite states) (Infinite stem' loop_part') w some = absurd w
longer_trace h (Finite states) (Finite states') w some = omega arith

longer_kind : (h : ℕ) (t u : Trace) (kind : Kind) → IsLonger h t u → IsOfKind t kind → IsOfKind u kind
longer_kind h (Infinite stem loop_part) (Infinite stem' loop_part') kind w k = same_kind kind k where
  same_kind : (kind : Kind) → IsOfKind (Infinite stem loop_part) kind → IsOfKind (Infinite stem' loop_part') kind
  same_kind Kinds.Infinite k = tt
  same_kind Kinds.Finite k = absurd k
longer_kind h (Infinite stem loop_part) (Finite states') kind w k = absurd w
longer_kind h (Finite states) (Infinite stem' loop_part') kind w k = absurd w
longer_kind h (Finite states) (Finite states') kind w k = same_kind kind k where
  same_kind : (kind : Kind) → IsOfKind (Finite states) kind → IsOfKind (Finite states') kind
  same_kind Kinds.Infinite k = absurd k
  same_kind Kinds.Finite k = tt

longer_positions : (h : ℕ) (t u : Trace) → IsLonger h t u → (i : ℕ) → IsPosition u i ↔ IsPosition t i
longer_positions h (Infinite stem loop_part) (Infinite stem' loop_part') w i = (λ p. tt, λ p. tt)
longer_positions h (Infinite stem loop_part) (Finite states') w i = absurd w
longer_positions h (Finite states) (Infinite stem' loop_part') w i = absurd w
longer_positions h (Finite states) (Finite states') w i = (λ p. omega arith, λ p. omega arith)

module _ (f : Formula) (P : Places) (t u : Trace) (x : IsExtension f P t u) where
  pub extension_is_trace : IsTrace t → IsTrace u
  extension_is_trace = longer_trace (past_depth f) t u x.longer

  pub extension_is_of_kind : (kind : Kind) → IsOfKind t kind → IsOfKind u kind
  extension_is_of_kind kind = longer_kind (past_depth f) t u kind x.longer

  positions : (i : ℕ) → IsPosition u i ↔ IsPosition t i
  positions = longer_positions (past_depth f) t u x.longer

  default_free : (gs : List Formula) (n : ℕ) (d e : Formula) → n < length gs → get_or gs n d ≡ get_or gs n e
  default_free [] n d e lt = absurd (omega arith)
  default_free (g ∷ gs) zero d e lt = refl
  default_free (g ∷ gs) (suc n) d e lt = default_free gs n d e (omega arith)

  stand : Stand t u positions x.named 0 (replaced f P)
  stand n lt d =
      let here : 0 + n ≡ n = omega arith in
      let same : get_or (replaced f P) n f ≡ get_or (replaced f P) n d = default_free (replaced f P) n f d lt in
      record {
        to = λ i at c. subst (λ g. Holds t g i) same ((x.fresh i n at lt).0 (subst (λ m. Contains (state_at u i) (name_of (Fresh m))) here c));
        back = λ i at h. subst (λ m. Contains (state_at u i) (name_of (Fresh m))) (sym here) ((x.fresh i n at lt).1 (subst (λ g. Holds t g i) (sym same) h));
      }

  -- where f holds, what replacement makes of it does on the extension, and the other way round
  pub extension_agrees : IsOriginal f → (i : ℕ) → IsPosition t i → Holds u (rep f P) i ↔ Holds t f i
  extension_agrees o i at =
      let r = rep_agrees t u positions x.named P f o 0 0 stand in
      (r.to i at, r.back i at)

position_zero : (t : Trace) → IsTrace t → IsPosition t 0
position_zero (Infinite stem loop_part) some = tt
position_zero (Finite states) some = some

-- what refutes the formula with some occurrences replaced refutes the formula
pub refuted_by_rep : (f : Formula) (P : Places) (kind : Kind) → IsOriginal f → nodes_in f ≤ 2 ^ 64
    → ((u : Trace) → IsTrace u → IsOfKind u kind → Satisfies u (rep f P) → ⊥) → (t : Trace) → IsTrace t → IsOfKind t kind → Satisfies t f → ⊥
refuted_by_rep f P kind o few none t good of_kind h =
    let w = trace_extends f P t few good in
    none w.0 (extension_is_trace f P t w.0 w.1 good) (extension_is_of_kind f P t w.0 w.1 kind of_kind)
    ((extension_agrees f P t w.0 w.1 o 0 (position_zero t good)).1 h)
