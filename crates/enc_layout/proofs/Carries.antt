-- The entries of a carry, and what clauses of a few letters say.
use Rattle.std.proofs.Common.{◌≡◌, ℕ, zero, suc, ◌<◌, Bool, true, false, not, ◌||◌, IsTrue, IsFalse, ◌⊎◌, inl, inr, refl, arith, ◌∙◌, ap, ap₂, sym, subst, List}
use Rattle.std.proofs.Common.{[], ◌∷◌, ◌++◌, length, map, get_or, Contains}
use Rattle.std.proofs.lemmas.Bool.{or_cases, or_left, or_right, cases_lt}
use Rattle.std.proofs.lemmas.List.{get_or_default}
use Rattle.std.proofs.lemmas.List.Elements.{Contains-append_left, Contains-append_right, Contains-append_cases}
use Rattle.ltl_syntax.specs.Formula.{Formula}
use Rattle.ltl_closure.specs.Norm.{Norm, NNext, NWeakNext, NYesterday, NWeakYesterday, NUntil}
use Rattle.ltl_closure.specs.Closure.{closure, nexts, yesterdays, argument, is_next}
use Rattle.ltl_closure.specs.Run.{RunState, val, carry, right_of}
use Rattle.ltl_closure.proofs.Lists.{Contains-nil, Contains-cons_cases, Contains-here, Contains-there, Contains-from_filter, agree_in_front, map_agree}
use Rattle.ltl_closure.proofs.Known.{next_in, yesterday_in}
use Rattle.enc_layout.specs.Letters.{Meaning, below}
use Rattle.enc_layout.specs.Clauses.{Clause, Plus, literal_true, clause_true, carried}
use Rattle.enc_layout.proofs.Gates.{first_child, second_child}

pub next_value : (s : RunState) (e : Norm) → IsTrue (is_next e) → val s e ≡ s e
next_value s (NNext a) h = refl
next_value s (NWeakNext a) h = refl
next_value s e h = cc

pub Contains-map : {X Y : Type 0} (g : X → Y) (xs : List X) (x : X) → Contains xs x → Contains (map g xs) (g x)
Contains-map g [] x h = absurd (Contains-nil x h)
Contains-map g (z ∷ zs) x h = elim (Contains-cons_cases z zs x h) [
  | inl e ↦ subst (λ y. Contains (g z ∷ map g zs) (g y)) e (Contains-here (g z) (map g zs))
  | inr r ↦ Contains-there (g z) (map g zs) (g x) (Contains-map g zs x r)
]

pub Contains-from_map : {X Y : Type 0} (g : X → Y) (xs : List X) (y : Y) → Contains (map g xs) y → (x : X) × Contains xs x × (g x ≡ y)
Contains-from_map g [] y h = absurd (Contains-nil y h)
Contains-from_map g (z ∷ zs) y h = elim (Contains-cons_cases (g z) (map g zs) y h) [
  | inl e ↦ (z, Contains-here z zs, e)
  | inr r ↦ let w = Contains-from_map g zs y r in (w.0, Contains-there z zs w.0 w.1, w.2)
]

pub place_of : {X : Type 0} (xs : List X) (x d : X) → Contains xs x → (k : ℕ) × (k < length xs) × (get_or xs k d ≡ x)
place_of xs x d (k, lt, e) = (k, lt, get_or_default xs k d x lt ∙ e)

module _ (f : Formula) where
  pub argument_in : (e : Norm) → Contains (closure f) e → Contains (closure f) (argument e)
  argument_in (NNext a) h = first_child f a (NNext a) [] refl h
  argument_in (NWeakNext a) h = first_child f a (NWeakNext a) [] refl h
  argument_in (NYesterday a) h = first_child f a (NYesterday a) [] refl h
  argument_in (NWeakYesterday a) h = first_child f a (NWeakYesterday a) [] refl h
  argument_in e h = h

  pub right_in : (e : Norm) → Contains (closure f) e → Contains (closure f) (right_of e)
  right_in (NUntil a b) h = second_child f a b (NUntil a b) _ refl h
  right_in e h = h

  pub carried_in : (e : Norm) → Contains (carried f) e → Contains (closure f) e
  carried_in e h = elim (Contains-append_cases (nexts f) (map argument (yesterdays f)) e h) [
    | inl n ↦ next_in f e n
    | inr m ↦ let w = Contains-from_map argument (yesterdays f) e m in subst (Contains (closure f)) w.2 (argument_in w.0 (yesterday_in f w.0 w.1))
  ]

  -- one carry is one value at each of its entries
  pub carried_from : (s u : RunState) → carry f s ≡ carry f u → (e : Norm) → Contains (carried f) e → val s e ≡ val u e
  carried_from s u h e m =
      let before = λ (w : RunState). map (λ e. val w (argument e)) (yesterdays f) in
      let front = agree_in_front s u (nexts f) (before s) (before u) h in
      let back = agree_in_front (λ e. val s (argument e)) (λ e. val u (argument e)) (yesterdays f) [] [] (ap (λ z. z ++ []) front.1) in
      elim (Contains-append_cases (nexts f) (map argument (yesterdays f)) e m) [
        | inl n ↦ let t = (Contains-from_filter is_next (closure f) e n).1 in next_value s e t ∙ (front.0 e n ∙ sym (next_value u e t))
        | inr y ↦ let w = Contains-from_map argument (yesterdays f) e y in subst (λ z. val s z ≡ val u z) w.2 (back.0 w.0 w.1)
      ]

  pub carried_same : (s u : RunState) → ((e : Norm) → Contains (carried f) e → val s e ≡ val u e) → carry f s ≡ carry f u
  carried_same s u h = ap₂ ◌++◌
      (map_agree s u (nexts f) (λ e n.
      let t = (Contains-from_filter is_next (closure f) e n).1 in
      sym (next_value s e t) ∙ (h e (Contains-append_left (nexts f) (map argument (yesterdays f)) e n) ∙ next_value u e t)))
      (map_agree (λ e. val s (argument e)) (λ e. val u (argument e)) (yesterdays f)
      (λ e y. h (argument e) (Contains-append_right (nexts f) (map argument (yesterdays f)) (argument e) (Contains-map argument (yesterdays f) e y))))

-- what clauses of few letters say
pub alone : (a : Bool) → IsTrue (a || false) → IsTrue a
alone a h = grind arith

pub then1 : (a b : Bool) → IsTrue (not a || (b || false)) → IsTrue a → IsTrue b
then1 a b h k = grind arith

pub then_not : (a b : Bool) → IsTrue (not a || (not b || false)) → IsTrue a → IsFalse b
then_not a b h k = grind arith

pub then2 : (a b c : Bool) → IsTrue (not a || (not b || (c || false))) → IsTrue a → IsTrue b → IsTrue c
then2 a b c h k l = grind arith

pub then_either : (a b c : Bool) → IsTrue (not a || (b || (c || false))) → IsTrue a → IsTrue b ⊎ IsTrue c
then_either true true c h k = inl refl
then_either true false c h k = inr (alone c h)
then_either false b c h k = cc

pub back1 : (a b : Bool) → IsTrue (a || (not b || false)) → IsTrue b → IsTrue a
back1 a b h k = grind arith

pub agree : (n a b : Bool) → IsTrue (not n || (not a || (b || false))) → IsTrue (not n || (a || (not b || false))) → IsTrue n → a ≡ b
agree n a b h k l = grind arith

pub differ : (n a b : Bool) → IsTrue (not n || (a || (b || false))) → IsTrue (not n || (not a || (not b || false))) → IsTrue n → a ≡ b → ⊥
differ n a b h k l e = grind arith

module _ (v : Meaning → Bool) where
  clause_true-append : (xs ys : Clause) → clause_true v (xs ++ ys) ≡ (clause_true v xs || clause_true v ys)
  clause_true-append [] ys = refl
  clause_true-append (x ∷ xs) ys = let e = clause_true-append xs ys in more (literal_true v x) _ _ _ e
    where
      more : (a b c d : Bool) → b ≡ (c || d) → (a || b) ≡ ((a || c) || d)
      more a b c d e = grind arith

  -- one of the letters is true
  pub some_below : (n : ℕ) (g : ℕ → Meaning) → IsTrue (clause_true v (below n (λ k. Plus (g k) ∷ []))) → (k : ℕ) × (k < n) × IsTrue (v (g k))
  some_below zero g h = cc
  some_below (suc n) g h =
      elim (or_cases (clause_true v (below n (λ k. Plus (g k) ∷ []))) (v (g n) || false)
      (sym (clause_true-append (below n (λ k. Plus (g k) ∷ [])) (Plus (g n) ∷ [])) ∙ h)) [
        | inl before ↦ let w = some_below n g before in (w.0, omega (arith, w.1), w.2)
        | inr here ↦ (n, omega arith, alone (v (g n)) here)
      ]

  pub below_some : (n : ℕ) (g : ℕ → Meaning) (k : ℕ) → k < n → IsTrue (v (g k)) → IsTrue (clause_true v (below n (λ k. Plus (g k) ∷ [])))
  below_some zero g k lt h = absurd (omega arith)
  below_some (suc n) g k lt h =
      clause_true-append (below n (λ k. Plus (g k) ∷ [])) (Plus (g n) ∷ []) ∙ elim (cases_lt k n) [
        | inl before ↦ or_left (clause_true v (below n (λ k. Plus (g k) ∷ []))) (v (g n) || false) (below_some n g k before h)
        | inr here ↦
            let e : k ≡ n = omega arith in
            or_right (clause_true v (below n (λ k. Plus (g k) ∷ []))) (v (g n) || false) (or_left (v (g n)) false (subst (λ m. IsTrue (v (g m))) e h))
      ]
