-- Claims on each member of lists that are put together.
use Rattle.std.proofs.Common.{◌≡◌, ℕ, zero, suc, ◌<◌, inl, inr, subst, arith, List, [], ◌∷◌, ◌++◌, map, Contains, flat_map}
use Rattle.std.proofs.lemmas.Bool.{cases_lt}
use Rattle.std.specs.List.{AllByRecursion as Each}
use Rattle.ltl_closure.proofs.Lists.{Contains-nil, Contains-cons_cases, Contains-here, Contains-there}
use Rattle.enc_layout.specs.Letters.{below}

module _ {X : Type 0} (P : X → Type 0) where
  pub Each-append : (xs ys : List X) → Each P xs → Each P ys → Each P (xs ++ ys)
  Each-append [] ys h k = k
  Each-append (x ∷ xs) ys h k = (h.0, Each-append xs ys h.1 k)

  pub Each-left : (xs ys : List X) → Each P (xs ++ ys) → Each P xs
  Each-left [] ys h = tt
  Each-left (x ∷ xs) ys h = (h.0, Each-left xs ys h.1)

  pub Each-right : (xs ys : List X) → Each P (xs ++ ys) → Each P ys
  Each-right [] ys h = h
  Each-right (x ∷ xs) ys h = Each-right xs ys h.1

  pub Each-below : (n : ℕ) (g : ℕ → List X) → ((k : ℕ) → k < n → Each P (g k)) → Each P (below n g)
  Each-below zero g h = tt
  Each-below (suc n) g h = Each-append (below n g) (g n) (Each-below n g (λ k lt. h k (omega arith))) (h n (omega arith))

  pub below-Each : (n : ℕ) (g : ℕ → List X) → Each P (below n g) → (k : ℕ) → k < n → Each P (g k)
  below-Each zero g h k lt = absurd (omega arith)
  below-Each (suc n) g h k lt = elim (cases_lt k n) [
    | inl before ↦ below-Each n g (Each-left (below n g) (g n) h) k before
    | inr here ↦ let e : n ≡ k = omega arith in subst (λ m. Each P (g m)) e (Each-right (below n g) (g n) h)
  ]

module _ {X Y : Type 0} (P : Y → Type 0) where
  pub Each-flat_map : (g : X → List Y) (xs : List X) → ((x : X) → Contains xs x → Each P (g x)) → Each P (flat_map g xs)
  Each-flat_map g [] h = tt
  Each-flat_map g (x ∷ xs) h = Each-append P (g x) (flat_map g xs) (h x (Contains-here x xs)) (Each-flat_map g xs (λ y i. h y (Contains-there x xs y i)))

  pub flat_map-Each : (g : X → List Y) (xs : List X) → Each P (flat_map g xs) → (x : X) → Contains xs x → Each P (g x)
  flat_map-Each g [] h x i = absurd (Contains-nil x i)
  flat_map-Each g (z ∷ zs) h x i = elim (Contains-cons_cases z zs x i) [
    | inl e ↦ subst (λ y. Each P (g y)) e (Each-left P (g z) (flat_map g zs) h)
    | inr r ↦ flat_map-Each g zs (Each-right P (g z) (flat_map g zs) h) x r
  ]

  pub Each-map : (g : X → Y) (xs : List X) → ((x : X) → Contains xs x → P (g x)) → Each P (map g xs)
  Each-map g [] h = tt
  Each-map g (x ∷ xs) h = (h x (Contains-here x xs), Each-map g xs (λ y i. h y (Contains-there x xs y i)))

  pub map-Each : (g : X → Y) (xs : List X) → Each P (map g xs) → (x : X) → Contains xs x → P (g x)
  map-Each g [] h x i = absurd (Contains-nil x i)
  map-Each g (z ∷ zs) h x i = elim (Contains-cons_cases z zs x i) [
    | inl e ↦ subst (λ y. P (g y)) e h.0
    | inr r ↦ map-Each g zs h.1 x r
  ]
