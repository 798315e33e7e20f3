-- A trace that satisfies a formula gives an accepted run.
use Rattle.std.proofs.Common.{◌≡◌, ℕ, zero, suc, ◌+◌, ◌-◌, ◌*◌, ◌<◌, ◌≤◌, ◌⊎◌, inl, inr, subst, arith, refl, sym, List, [], ◌∷◌, ◌++◌, length, Contains, All}
use Rattle.std.proofs.Common.{Decides, Bool, true, not, IsTrue, ◌&&◌, ◌||◌}
use Rattle.ltl_syntax.specs.declared.node.Kind.TheVariants as Kinds
use Rattle.std.proofs.lemmas.Bool.{cases_lt, and_parts, and_from, or_cases, or_left, or_right, not-true, false_from_ne_true, not_from_false}
use Rattle.std.proofs.lemmas.List.Elements.{All-append, All-cons, All-nil, All-contains}
use Rattle.std.specs.Bool.{one_answer}
use Rattle.ltl_closure.specs.Decide.{is_yes}
use Rattle.ltl_syntax.specs.Formula.{Formula}
use Rattle.ltl_word.specs.declared.trace.Trace.{Trace}
use Rattle.ltl_word.specs.declared.trace.Trace.TheVariants.{Infinite, Finite}
use Rattle.ltl_word.specs.Trace.{IsPosition, IsTrace, Names}
use Rattle.ltl_word.specs.Holds.{Holds}
use Rattle.ltl_word.specs.Depth.{past_depth}
use Rattle.ltl_closure.specs.Norm.{Norm, NConst, NLetter, NNotLetter, NAnd, NOr, NNext, NWeakNext, NYesterday, NWeakYesterday, NUntil, NRelease, NSince}
use Rattle.ltl_closure.specs.Norm.{NTrigger, pos_of, formula_of}
use Rattle.ltl_closure.specs.Closure.{closure, argument, walk, is_next, is_yesterday, is_eventuality}
use Rattle.ltl_closure.specs.Run.{States, IsRun, val, carry, is_pending, IsFulfilledIn, Loop, End, HasAccepted}
use Rattle.ltl_word.proofs.Repeats.{Repeats, moved_down}
use Rattle.ltl_word.proofs.Periodicity.{Holds-repeats}
use Rattle.ltl_word.proofs.Decided.{Holds_decided}
use Rattle.ltl_run.specs.TraceOf.{ClosesTo}
use Rattle.ltl_run.proofs.Depths.{norm_depth}
use Rattle.ltl_closure.proofs.Lists.{Contains-from_filter}
use Rattle.ltl_closure.proofs.Entries.{Contains-walk}
use Rattle.ltl_run.proofs.Carry.{carry-from}
use Rattle.ltl_word.proofs.Decided.{position_below}
use Rattle.ltl_word.proofs.Expansion.{until_in, until_out, release_in, release_out, since_in, since_out, trigger_in, trigger_out}

is_yes_decides : {P : Type 0} (d : Dec P) → Decides (is_yes d) P
is_yes_decides (yes p) = (λ e. p, λ q. refl)
is_yes_decides (no h) = (λ e. cc, λ q. absurd (h q))

Decides-to : {P Q : Type 0} {b : Bool} → Decides b P → (P → Q) → (Q → P) → Decides b Q
Decides-to d f g = (λ e. f (d.0 e), λ q. d.1 (g q))

Decides-or : {P Q : Type 0} (b c : Bool) → Decides b P → Decides c Q → Decides (b || c) (P ⊎ Q)
Decides-or b c d e =
    (λ h. elim (or_cases b c h) [ inl x ↦ inl (d.0 x) | inr y ↦ inr (e.0 y) ], λ w. elim w [ inl p ↦ or_left b c (d.1 p) | inr q ↦ or_right b c (e.1 q) ])

Decides-and : {P Q : Type 0} (b c : Bool) → Decides b P → Decides c Q → Decides (b && c) (P × Q)
Decides-and b c d e = (λ h. let w = and_parts b c h in (d.0 w.0, e.0 w.1), λ w. and_from b c (d.1 w.0) (e.1 w.1))

Decides-not : {P : Type 0} (b : Bool) → Decides b P → Decides (not b) (P → ⊥)
Decides-not b d = (λ h p. let x = d.1 p in let y = not-true b h in cc, λ n. not_from_false b (false_from_ne_true b (λ e. n (d.0 e))))

module _ (t : Trace) (good : IsTrace t) where
  -- the states of a trace
  abbrev pub states_of : States
  states_of i e = is_yes (Holds_decided t good (formula_of e) i)

  basic : (e : Norm) (i : ℕ) → Decides (states_of i e) (Holds t (formula_of e) i)
  basic e i = is_yes_decides (Holds_decided t good (formula_of e) i)

  pub val_decides : (e : Norm) (i : ℕ) → IsPosition t i → Decides (val (states_of i) e) (Holds t (formula_of e) i)
  val_decides (NConst b) i at = (λ h. h, λ h. h)
  val_decides (NLetter p) i at = basic (NLetter p) i
  val_decides (NNotLetter p) i at = Decides-not (states_of i (NLetter p)) (basic (NLetter p) i)
  val_decides (NAnd a b) i at = Decides-and (val (states_of i) a) (val (states_of i) b) (val_decides a i at) (val_decides b i at)
  val_decides (NOr a b) i at = Decides-or (val (states_of i) a) (val (states_of i) b) (val_decides a i at) (val_decides b i at)
  val_decides (NNext a) i at = basic (NNext a) i
  val_decides (NWeakNext a) i at = basic (NWeakNext a) i
  val_decides (NYesterday a) i at = basic (NYesterday a) i
  val_decides (NWeakYesterday a) i at = basic (NWeakYesterday a) i
  val_decides (NUntil a b) i at =
      Decides-to (Decides-or _ _ (val_decides b i at) (Decides-and _ _ (val_decides a i at) (basic (NNext (NUntil a b)) i)))
      (until_in (IsPosition t) (Holds t (formula_of a)) (Holds t (formula_of b)) (position_below t) i at)
      (until_out (IsPosition t) (Holds t (formula_of a)) (Holds t (formula_of b)) (position_below t) i)
  val_decides (NRelease a b) i at =
      Decides-to (Decides-and _ _ (val_decides b i at) (Decides-or _ _ (val_decides a i at) (basic (NWeakNext (NRelease a b)) i)))
      (release_in (IsPosition t) (Holds t (formula_of a)) (Holds t (formula_of b)) (position_below t) i)
      (release_out (IsPosition t) (Holds t (formula_of a)) (Holds t (formula_of b)) (position_below t) i at (Holds_decided t good (formula_of a) i))
  val_decides (NSince a b) i at =
      Decides-to (Decides-or _ _ (val_decides b i at) (Decides-and _ _ (val_decides a i at) (basic (NYesterday (NSince a b)) i)))
      (since_in (Holds t (formula_of a)) (Holds t (formula_of b)) i)
      (since_out (Holds t (formula_of a)) (Holds t (formula_of b)) i)
  val_decides (NTrigger a b) i at =
      Decides-to (Decides-and _ _ (val_decides b i at) (Decides-or _ _ (val_decides a i at) (basic (NWeakYesterday (NTrigger a b)) i)))
      (trigger_in (Holds t (formula_of a)) (Holds t (formula_of b)) i)
      (trigger_out (Holds t (formula_of a)) (Holds t (formula_of b)) i (Holds_decided t good (formula_of a) i))

  next_case : (e : Norm) → IsTrue (is_next e) → (i : ℕ) → IsPosition t (suc i) → states_of i e ≡ val (states_of (suc i)) (argument e)
  next_case (NNext a) h i at =
      one_answer _ _ (Decides-to (basic (NNext a) i) (λ w. subst (Holds t (formula_of a)) (sym w.1.0) w.2) (λ x. (suc i, (refl, at), x)))
      (val_decides a (suc i) at)
  next_case (NWeakNext a) h i at =
      one_answer _ _ (Decides-to (basic (NWeakNext a) i) (λ g. g (suc i) (refl, at)) (λ x j w. subst (Holds t (formula_of a)) w.0 x))
      (val_decides a (suc i) at)
  next_case (NUntil a b) h i at = cc
  next_case other h i at = cc

  before_case : (e : Norm) → IsTrue (is_yesterday e) → (i : ℕ) → IsPosition t i → states_of (suc i) e ≡ val (states_of i) (argument e)
  before_case (NYesterday a) h i at =
      one_answer _ _ (Decides-to (basic (NYesterday a) (suc i)) (λ w. let d : w.0 ≡ i = omega arith in subst (Holds t (formula_of a)) d w.2)
      (λ x. (i, refl, x))) (val_decides a i at)
  before_case (NWeakYesterday a) h i at =
      one_answer _ _ (Decides-to (basic (NWeakYesterday a) (suc i)) (λ g. g i refl)
      (λ x j e. let d : i ≡ j = omega arith in subst (Holds t (formula_of a)) d x)) (val_decides a i at)
  before_case (NUntil a b) h i at = cc
  before_case other h i at = cc

  pub states_run : (f : Formula) (k : ℕ) → IsPosition t k → Holds t (formula_of (pos_of f)) 0 → IsRun f k states_of
  states_run f k at h = record {
    root = (val_decides (pos_of f) 0 (position_below t 0 k (omega arith) at)).1 h;
    yesterday = λ a c. false_from_ne_true _ (λ e. let w = (basic (NYesterday a) 0).0 e in absurd (omega arith));
    weak_yesterday = λ a c. (basic (NWeakYesterday a) 0).1 (λ j e. absurd (omega arith));
    next = λ i lt e c. next_case e (Contains-from_filter is_next (closure f) e c).1 i (position_below t (suc i) k lt at);
    before = λ i lt e c. before_case e (Contains-from_filter is_yesterday (closure f) e c).1 i (position_below t i k (omega arith) at);
  }

-- the argument of a yesterday request, and else the entry
abbrev carried : Norm → Norm
carried (NYesterday a) = a
carried (NWeakYesterday a) = a
carried e = e

abbrev IsShallow : ℕ → Norm → Type 0
IsShallow h e = past_depth (formula_of (carried e)) ≤ h

shallow_one : (h : ℕ) (xs : List Norm) (e : Norm) → All (IsShallow h) xs → IsShallow h e → All (IsShallow h) (xs ++ e ∷ [])
shallow_one h xs e a b = All-append (IsShallow h) xs (e ∷ []) a (All-cons (IsShallow h) e [] b (All-nil (IsShallow h)))

shallow_two : (h : ℕ) (xs ys : List Norm) (e : Norm) → All (IsShallow h) xs → All (IsShallow h) ys → IsShallow h e → All (IsShallow h) (xs ++ (ys ++ e ∷ []))
shallow_two h xs ys e a b c = All-append (IsShallow h) xs (ys ++ e ∷ []) a (shallow_one h ys e b c)

shallow_three : (h : ℕ) (xs ys : List Norm) (e d : Norm) → All (IsShallow h) xs → All (IsShallow h) ys → IsShallow h e → IsShallow h d
    → All (IsShallow h) (xs ++ (ys ++ e ∷ d ∷ []))
shallow_three h xs ys e d a b c g = All-append (IsShallow h) xs (ys ++ e ∷ d ∷ []) a
    (All-append (IsShallow h) ys (e ∷ d ∷ []) b (All-cons (IsShallow h) e (d ∷ []) c (All-cons (IsShallow h) d [] g (All-nil (IsShallow h)))))

walk_shallow : (g : Norm) (h : ℕ) → past_depth (formula_of g) ≤ h → All (IsShallow h) (walk g)
walk_shallow (NConst b) h le = All-cons (IsShallow h) (NConst b) [] le (All-nil (IsShallow h))
walk_shallow (NLetter p) h le = All-cons (IsShallow h) (NLetter p) [] le (All-nil (IsShallow h))
walk_shallow (NNotLetter p) h le =
    All-cons (IsShallow h) (NLetter p) (NNotLetter p ∷ []) (omega arith) (All-cons (IsShallow h) (NNotLetter p) [] le (All-nil (IsShallow h)))
walk_shallow (NAnd a b) h le = shallow_two h _ _ (NAnd a b) (walk_shallow a h (omega arith)) (walk_shallow b h (omega arith)) le
walk_shallow (NOr a b) h le = shallow_two h _ _ (NOr a b) (walk_shallow a h (omega arith)) (walk_shallow b h (omega arith)) le
walk_shallow (NNext a) h le = shallow_one h _ (NNext a) (walk_shallow a h (omega arith)) le
walk_shallow (NWeakNext a) h le = shallow_one h _ (NWeakNext a) (walk_shallow a h (omega arith)) le
walk_shallow (NYesterday a) h le = shallow_one h _ (NYesterday a) (walk_shallow a h (omega arith)) (omega arith)
walk_shallow (NWeakYesterday a) h le = shallow_one h _ (NWeakYesterday a) (walk_shallow a h (omega arith)) (omega arith)
walk_shallow (NUntil a b) h le =
    shallow_three h _ _ (NUntil a b) (NNext (NUntil a b)) (walk_shallow a h (omega arith)) (walk_shallow b h (omega arith)) le (omega arith)
walk_shallow (NRelease a b) h le =
    shallow_three h _ _ (NRelease a b) (NWeakNext (NRelease a b)) (walk_shallow a h (omega arith)) (walk_shallow b h (omega arith)) le (omega arith)
walk_shallow (NSince a b) h le =
    shallow_three h _ _ (NSince a b) (NYesterday (NSince a b)) (walk_shallow a h (omega arith)) (walk_shallow b h (omega arith)) le le
walk_shallow (NTrigger a b) h le =
    shallow_three h _ _ (NTrigger a b) (NWeakYesterday (NTrigger a b)) (walk_shallow a h (omega arith)) (walk_shallow b h (omega arith)) le le

module _ (f : Formula) (stem loop_part : List Names) (some : 0 < length loop_part) where
  abbrev t : Trace
  t = Infinite stem loop_part

  pub h : ℕ
  h = past_depth f

  pub from : ℕ
  from = length stem + h * length loop_part

  abbrev r : States
  r = states_of t some

  shallow : (e : Norm) → Contains (closure f) e → IsShallow h e
  unfolding h
  shallow e c = let d = norm_depth f true in All-contains (IsShallow h) (walk (pos_of f)) e (walk_shallow (pos_of f) h (omega arith)) (Contains-walk f e c)

  repeats : (e : Norm) → past_depth (formula_of e) ≤ h → Repeats (Holds t (formula_of e)) (length loop_part) from
  unfolding from
  repeats e le = Holds-repeats stem loop_part some (formula_of e) h le

  same_val : (e : Norm) → past_depth (formula_of e) ≤ h → val (r from) e ≡ val (r (from + length loop_part)) e
  same_val e le =
      let w = repeats e le in
      one_answer _ _ (val_decides t some e from tt)
      (Decides-to (val_decides t some e (from + length loop_part) tt) (w.earlier from (omega arith)) (w.later from (omega arith)))

  next_same : (e : Norm) → IsTrue (is_next e) → IsShallow h e → r from e ≡ r (from + length loop_part) e
  next_same (NNext a) i le = same_val (NNext a) le
  next_same (NWeakNext a) i le = same_val (NWeakNext a) le
  next_same _ i le = cc

  before_same : (e : Norm) → IsTrue (is_yesterday e) → IsShallow h e → val (r from) (argument e) ≡ val (r (from + length loop_part)) (argument e)
  before_same (NYesterday a) i le = same_val a le
  before_same (NWeakYesterday a) i le = same_val a le
  before_same _ i le = cc

  closes : carry f (r from) ≡ carry f (r (from + length loop_part))
  closes = carry-from f (r from) (r (from + length loop_part)) (record {
    next = λ e c. let w = Contains-from_filter is_next (closure f) e c in next_same e w.1 (shallow e w.0);
    before = λ e c. let w = Contains-from_filter is_yesterday (closure f) e c in before_same e w.1 (shallow e w.0);
  })

  -- a right operand that holds after the loop's first round holds within it
  met_within : (b : Norm) → Repeats (Holds t (formula_of b)) (length loop_part) from → (fuel j : ℕ) → j ≤ fuel → from < j → Holds t (formula_of b) j
      → (v : ℕ) × (from < v) × (v ≤ from + length loop_part) × Holds t (formula_of b) v
  met_within b w zero j le lt x = absurd (omega arith)
  met_within b w (suc fuel) j le lt x = elim (cases_lt (from + length loop_part) j) [
    | inr within ↦ (j, lt, within, x)
    | inl past ↦
        met_within b w fuel (j - length loop_part) (omega arith) (omega arith) (moved_down (Holds t (formula_of b)) (length loop_part) from w j (omega arith) x)
  ]

  fulfils : (e : Norm) → IsTrue (is_eventuality e) → IsShallow h e → IsTrue (is_pending (r (from + length loop_part)) e)
      → IsFulfilledIn r from (from + length loop_part) e
  fulfils (NUntil a b) i le p =
      let k = from + length loop_part in
      let x = (val_decides t some (NNext (NUntil a b)) (from + length loop_part) tt).0 p in
      let e : suc (from + length loop_part) ≡ x.0 = x.1.0 in
      let u = x.2 in
      let w = met_within b (repeats b (omega arith)) u.0 u.0 (omega arith) (omega arith) u.3 in
      (w.0, w.1, w.2, (val_decides t some b w.0 tt).1 w.3)
  fulfils _ i le p = cc

  lasso_closes : ClosesTo f r from (from + length loop_part)
  lasso_closes = record {
    earlier = omega arith;
    one = closes;
    fulfilled = λ e c p. let w = Contains-from_filter is_eventuality (closure f) e c in fulfils e w.1 (shallow e w.0) p;
  }

  -- a lasso that satisfies the formula gives a run that closes after the past operators have settled
  pub lasso_runs : Holds t (formula_of (pos_of f)) 0 → (u : States) × IsRun f (length stem + past_depth f * length loop_part + length loop_part) u
      × ClosesTo f u (length stem + past_depth f * length loop_part) (length stem + past_depth f * length loop_part + length loop_part)
  unfolding from h
  lasso_runs x = (r, states_run t some f (from + length loop_part) tt x, lasso_closes)

  pub trace_accepted : Holds t (formula_of (pos_of f)) 0 → (k : ℕ) × HasAccepted f Kinds.Infinite k
  trace_accepted x = let w = lasso_runs x in (_, (w.0, w.1, Loop _ w.2.earlier w.2.one w.2.fulfilled))

pub finite_accepted : (f : Formula) (states : List Names) (k : ℕ) → length states ≡ suc k → Holds (Finite states) (formula_of (pos_of f)) 0
    → HasAccepted f Kinds.Finite k
finite_accepted f states k e x =
    let good : 0 < length states = omega arith in (
      states_of (Finite states) good,
      states_run (Finite states) good f k (omega arith) x,
      End (λ a c. false_from_ne_true _ (λ p.
          let w = (val_decides (Finite states) good (NNext a) k (omega arith)).0 p in absurd (omega arith))),
    )
