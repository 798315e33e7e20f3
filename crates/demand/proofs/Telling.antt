-- What tests on rows of values say of the run.
use Rattle.std.proofs.Common.{◌≡◌, ℕ, zero, suc, ◌<◌, Bool, true, false, not, ◌&&◌, ◌||◌, IsTrue, IsFalse, inl, inr, refl, arith, ◌∙◌, sym, subst, List, []}
use Rattle.std.proofs.Common.{◌∷◌, length, map, Contains}
use Rattle.std.specs.Prelude.{nat_lt}
use Rattle.std.proofs.lemmas.Bool.{or_cases, or_left, or_right, cases_lt, ltb-true, lt-ltb}
use Rattle.std.proofs.lemmas.List.{get_or-map, length-map}
use Rattle.std.proofs.lemmas.List.Elements.{Contains-get_or}
use Rattle.ltl_syntax.specs.declared.node.Kind.{Kind}
use Rattle.ltl_syntax.specs.Formula.{Formula}
use Rattle.ltl_closure.specs.Norm.{Norm, NConst}
use Rattle.ltl_closure.specs.Closure.{eventualities}
use Rattle.ltl_closure.specs.Run.{States, carry, is_pending, is_fulfilled, IsFulfilledIn}
use Rattle.ltl_closure.proofs.Lists.{Contains-nil, Contains-cons_cases, Contains-here, Contains-there}
use Rattle.enc_layout.specs.Clauses.{eventuality}
use Rattle.enc_layout.proofs.Carries.{place_of}
use Rattle.demand.specs.Rows.{Rows, rows_of}
use Rattle.demand.specs.Values.{value_at, are_false, passes_below}
use Rattle.demand.specs.Closing.{is_one_carry, is_done, is_met, all_met}
use Rattle.demand.specs.Pruning.{is_old, is_nothing_new}
use Rattle.demand.proofs.ValueLists.{no_difference, same_difference}

pub first_true : (a b : Bool) → IsTrue (a && b) → IsTrue a
first_true a b h = grind arith

pub second_true : (a b : Bool) → IsTrue (a && b) → IsTrue b
second_true a b h = grind arith

pub both_true : (a b : Bool) → IsTrue a → IsTrue b → IsTrue (a && b)
both_true a b h k = grind arith

first_false : (a b : Bool) → IsTrue (not a && b) → IsFalse a
first_false a b h = grind arith

both_false : (a b : Bool) → IsFalse a → IsTrue b → IsTrue (not a && b)
both_false a b h k = grind arith

then_true : (a b : Bool) → IsTrue (not a || b) → IsTrue a → IsTrue b
then_true a b h k = grind arith

true_then : (a b : Bool) → (IsTrue a → IsTrue b) → IsTrue (not a || b)
true_then true b h = h refl
true_then false b h = refl

module _ {X : Type 0} (g : X → Bool) where
  pub none_true : (xs : List X) → IsTrue (are_false (map g xs)) → (x : X) → Contains xs x → IsFalse (g x)
  none_true [] h x m = absurd (Contains-nil x m)
  none_true (y ∷ ys) h x m = elim (Contains-cons_cases y ys x m) [
    | inl e ↦ subst (λ z. IsFalse (g z)) e (first_false (g y) (are_false (map g ys)) h)
    | inr r ↦ none_true ys (second_true (not (g y)) (are_false (map g ys)) h) x r
  ]

  pub true_none : (xs : List X) → ((x : X) → Contains xs x → IsFalse (g x)) → IsTrue (are_false (map g xs))
  true_none [] h = refl
  true_none (y ∷ ys) h = both_false (g y) (are_false (map g ys)) (h y (Contains-here y ys)) (true_none ys (λ x m. h x (Contains-there y ys x m)))

pub passes_to : (n : ℕ) (test : ℕ → Bool) → IsTrue (passes_below n test) → (m : ℕ) → m < n → IsTrue (test m)
passes_to zero test h m lt = absurd (omega arith)
passes_to (suc n) test h m lt = elim (cases_lt m n) [
  | inl before ↦ passes_to n test (first_true (passes_below n test) (test n) h) m before
  | inr here ↦ let e : n ≡ m = omega arith in subst (λ j. IsTrue (test j)) e (second_true (passes_below n test) (test n) h)
]

pub passes_from : (n : ℕ) (test : ℕ → Bool) → ((m : ℕ) → m < n → IsTrue (test m)) → IsTrue (passes_below n test)
passes_from zero test h = refl
passes_from (suc n) test h = both_true (passes_below n test) (test n) (passes_from n test (λ m lt. h m (omega arith))) (h n (omega arith))

module _ (f : Formula) (kind : Kind) (r : States) where
  abbrev pub seen : Rows
  seen = rows_of f kind r

  pub one_to : (l i : ℕ) → IsTrue (is_one_carry (rows_of f kind r) l i) → carry f (r l) ≡ carry f (r i)
  one_to l i h = no_difference (carry f (r l)) (carry f (r i)) h

  pub one_from : (l i : ℕ) → carry f (r l) ≡ carry f (r i) → IsTrue (is_one_carry (rows_of f kind r) l i)
  one_from l i e = same_difference (carry f (r l)) (carry f (r i)) e

  pending_at : (i m : ℕ) → m < length (eventualities f) → value_at (map (is_pending (r i)) (eventualities f)) m ≡ is_pending (r i) (eventuality f m)
  pending_at i m lt = get_or-map (is_pending (r i)) (eventualities f) m (NConst false) false lt

  fulfilled_at : (i m : ℕ) → m < length (eventualities f) → value_at (map (is_fulfilled (r i)) (eventualities f)) m ≡ is_fulfilled (r i) (eventuality f m)
  fulfilled_at i m lt = get_or-map (is_fulfilled (r i)) (eventualities f) m (NConst false) false lt

  pending_count : (i : ℕ) → length (map (is_pending (r i)) (eventualities f)) ≡ length (eventualities f)
  pending_count i = length-map (eventualities f) (is_pending (r i))

  pub done_to : (l i m : ℕ) → m < length (eventualities f) → IsTrue (is_done (rows_of f kind r) l i m) → IsFulfilledIn r l i (eventuality f m)
  done_to l zero m lt h = cc
  done_to l (suc i) m lt h =
      let now = value_at (map (is_fulfilled (r (suc i))) (eventualities f)) m in
      let before = is_done (rows_of f kind r) l i m in
      let less = ltb-true l (suc i) (first_true (nat_lt l (suc i)) (before || now) h) in
      elim (or_cases before now (second_true (nat_lt l (suc i)) (before || now) h)) [
        | inl early ↦ let w = done_to l i m lt early in (w.0, w.1, omega (arith, w.2), w.3)
        | inr here ↦ (suc i, less, omega arith, sym (fulfilled_at (suc i) m lt) ∙ here)
      ]

  pub done_from : (l i m : ℕ) → m < length (eventualities f) → IsFulfilledIn r l i (eventuality f m) → IsTrue (is_done (rows_of f kind r) l i m)
  done_from l zero m lt (n, after, upto, b) = absurd (omega arith)
  done_from l (suc i) m lt (n, after, upto, b) =
      let now = value_at (map (is_fulfilled (r (suc i))) (eventualities f)) m in
      let before = is_done (rows_of f kind r) l i m in
      both_true (nat_lt l (suc i)) (before || now) (lt-ltb l (suc i) (omega arith)) (elim (cases_lt n (suc i)) [
        | inl early ↦ or_left before now (done_from l i m lt (n, after, omega arith, b))
        | inr late ↦
            let e : n ≡ suc i = omega arith in
            or_right before now (fulfilled_at (suc i) m lt ∙ subst (λ z. IsTrue (is_fulfilled (r z) (eventuality f m))) e b)
      ])

  -- of each eventuality by its place
  member : (m : ℕ) → m < length (eventualities f) → Contains (eventualities f) (eventuality f m)
  member m lt = Contains-get_or (eventualities f) m (NConst false) lt

  inside : (i m : ℕ) → m < length (map (is_pending (r i)) (eventualities f)) → m < length (eventualities f)
  inside i m lt = subst (λ n. m < n) (pending_count i) lt

  outside : (i m : ℕ) → m < length (eventualities f) → m < length (map (is_pending (r i)) (eventualities f))
  outside i m lt = subst (λ n. m < n) (sym (pending_count i)) lt

  pub all_met_to : (l k : ℕ) → IsTrue (all_met (rows_of f kind r) l k) → (e : Norm) → Contains (eventualities f) e → IsTrue (is_pending (r k) e)
      → IsFulfilledIn r l k e
  all_met_to l k h e c p =
      let u = place_of (eventualities f) e (NConst false) c in
      let t = passes_to (length (map (is_pending (r k)) (eventualities f))) (is_met (rows_of f kind r) l k) h u.0 (outside k u.0 u.1) in
      let pending = value_at (map (is_pending (r k)) (eventualities f)) u.0 in
      let here : IsTrue pending = pending_at k u.0 u.1 ∙ subst (λ z. IsTrue (is_pending (r k) z)) (sym u.2) p in
      subst (IsFulfilledIn r l k) u.2 (done_to l k u.0 u.1 (then_true pending (is_done (rows_of f kind r) l k u.0) t here))

  pub all_met_from : (l k : ℕ) → ((e : Norm) → Contains (eventualities f) e → IsTrue (is_pending (r k) e) → IsFulfilledIn r l k e)
      → IsTrue (all_met (rows_of f kind r) l k)
  all_met_from l k all = passes_from (length (map (is_pending (r k)) (eventualities f))) (is_met (rows_of f kind r) l k) (λ m out.
      let lt = inside k m out in
      true_then (value_at (map (is_pending (r k)) (eventualities f)) m) (is_done (rows_of f kind r) l k m) (λ p.
      done_from l k m lt (all (eventuality f m) (member m lt) (sym (pending_at k m lt) ∙ p))))

  pub nothing_new_to : (l j i : ℕ) → IsTrue (is_nothing_new (rows_of f kind r) l j i)
      → (e : Norm) → Contains (eventualities f) e → IsTrue (is_pending (r i) e) → IsFulfilledIn r j i e → IsFulfilledIn r l j e
  nothing_new_to l j i h e c p w =
      let u = place_of (eventualities f) e (NConst false) c in
      let pending = value_at (map (is_pending (r i)) (eventualities f)) u.0 in
      let late = is_done (rows_of f kind r) j i u.0 in
      let early = is_done (rows_of f kind r) l j u.0 in
      let t = passes_to (length (map (is_pending (r i)) (eventualities f))) (is_old (rows_of f kind r) l j i) h u.0 (outside i u.0 u.1) in
      let after = then_true pending (not late || early) t (pending_at i u.0 u.1 ∙ subst (λ z. IsTrue (is_pending (r i) z)) (sym u.2) p) in
      subst (IsFulfilledIn r l j) u.2 (done_to l j u.0 u.1 (then_true late early after (done_from j i u.0 u.1 (subst (IsFulfilledIn r j i) (sym u.2) w))))

  pub nothing_new_from : (l j i : ℕ) → ((e : Norm) → Contains (eventualities f) e → IsTrue (is_pending (r i) e) → IsFulfilledIn r j i e → IsFulfilledIn r l j e)
      → IsTrue (is_nothing_new (rows_of f kind r) l j i)
  nothing_new_from l j i all = passes_from (length (map (is_pending (r i)) (eventualities f))) (is_old (rows_of f kind r) l j i) (λ m out.
      let lt = inside i m out in
      let late = is_done (rows_of f kind r) j i m in
      let early = is_done (rows_of f kind r) l j m in
      true_then (value_at (map (is_pending (r i)) (eventualities f)) m) (not late || early) (λ p. true_then late early (λ w.
      done_from l j m lt (all (eventuality f m) (member m lt) (sym (pending_at i m lt) ∙ p) (done_to j i m lt w)))))
