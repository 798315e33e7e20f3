-- Of many places with few answers, many have one answer.
use Rattle.std.proofs.Common.{◌≡◌, ℕ, zero, suc, ◌+◌, ◌*◌, ◌^◌, ◌<◌, ◌≤◌, inl, inr, subst, ap, arith, sym, refl, ◌∙◌, List, [], ◌∷◌, length, Contains, Bool}
use Rattle.std.proofs.Common.{true, false, not, cond, IsTrue, IsFalse, filter, count_by, pow-suc}
use Rattle.std.proofs.lemmas.Bool.{cases_lt, not-true}
use Rattle.std.proofs.lemmas.List.Sums.{sum_by-cons}
use Rattle.ltl_closure.proofs.Lists.{Contains-nil, Contains-cons_cases, Contains-from_filter}
use Rattle.ltl_run.specs.Repeated.{IsAscending}

ascending_case : (b : Bool) (x : ℕ) (rest : List ℕ) → ((y : ℕ) → Contains rest y → x < y) → IsAscending rest → IsAscending (cond b (x ∷ rest) rest)
ascending_case true x rest h t = (h, t)
ascending_case false x rest h t = t

pub IsAscending-filter : (p : ℕ → Bool) (xs : List ℕ) → IsAscending xs → IsAscending (filter p xs)
IsAscending-filter p [] h = tt
IsAscending-filter p (x ∷ xs) h = ascending_case (p x) x (filter p xs) (λ y c. h.0 y (Contains-from_filter p xs y c).0) (IsAscending-filter p xs h.1)

-- n places from k on
abbrev pub places : ℕ → ℕ → List ℕ
places k zero = []
places k (suc n) = k ∷ places (suc k) n

pub length-places : (k n : ℕ) → length (places k n) ≡ n
length-places k zero = refl
length-places k (suc n) = ap suc (length-places (suc k) n)

pub places_within : (k n y : ℕ) → Contains (places k n) y → (k ≤ y) × (y < k + n)
places_within k zero y h = absurd (Contains-nil y h)
places_within k (suc n) y h = elim (Contains-cons_cases k (places (suc k) n) y h) [
  | inl e ↦ (omega arith, omega arith)
  | inr c ↦ let w = places_within (suc k) n y c in (omega arith, omega arith)
]

pub IsAscending-places : (k n : ℕ) → IsAscending (places k n)
IsAscending-places k zero = tt
IsAscending-places k (suc n) = (λ y c. let w = places_within (suc k) n y c in omega arith, IsAscending-places (suc k) n)

split_case : (b : Bool) (x : ℕ) (us vs : List ℕ) → length (cond b (x ∷ us) us) + length (cond (not b) (x ∷ vs) vs) ≡ suc (length us + length vs)
split_case true x us vs = omega arith
split_case false x us vs = omega arith

pub length_split : (p : ℕ → Bool) (xs : List ℕ) → length (filter p xs) + length (filter (λ x. not (p x)) xs) ≡ length xs
length_split p [] = omega arith
length_split p (x ∷ xs) = split_case (p x) x (filter p xs) (filter (λ y. not (p y)) xs) ∙ ap suc (length_split p xs)

-- one answer of each test at all of these places
abbrev pub Agree : List (ℕ → Bool) → List ℕ → Type 0
Agree fs ys = (g : ℕ → Bool) → Contains fs g → (y z : ℕ) → Contains ys y → Contains ys z → g y ≡ g z

-- a crowd among the places that pass p, which all answer one thing to g
crowd_in : (g p : ℕ → Bool) (fs : List (ℕ → Bool)) (m : ℕ) (xs : List ℕ) → ((y z : ℕ) → IsTrue (p y) → IsTrue (p z) → g y ≡ g z)
    → (ys : List ℕ) × IsAscending ys × (m < length ys) × ((y : ℕ) → Contains ys y → Contains (filter p xs) y) × Agree fs ys
    → (ys : List ℕ) × IsAscending ys × (m < length ys) × ((y : ℕ) → Contains ys y → Contains xs y) × Agree (g ∷ fs) ys
crowd_in g p fs m xs one (ys, asc, many, inside, agree) = (
  ys,
  asc,
  many,
  λ y c. (Contains-from_filter p xs y (inside y c)).0,
  λ h c y z cy cz. elim (Contains-cons_cases g fs h c) [
    | inl e ↦ subst (λ t. t y ≡ t z) e (one y z (Contains-from_filter p xs y (inside y cy)).1 (Contains-from_filter p xs z (inside z cz)).1)
    | inr d ↦ agree h d y z cy cz
  ],
)

pub crowd : (fs : List (ℕ → Bool)) (m : ℕ) (xs : List ℕ) → IsAscending xs → m * 2 ^ length fs < length xs
    → (ys : List ℕ) × IsAscending ys × (m < length ys) × ((y : ℕ) → Contains ys y → Contains xs y) × Agree fs ys
crowd [] m xs asc h = (xs, asc, omega arith, λ y c. c, λ g c. absurd (Contains-nil g c))
crowd (g ∷ fs) m xs asc h =
    let split = length_split g xs in
    let twice = pow-suc 2 (length fs) in
    elim (cases_lt (m * 2 ^ length fs) (length (filter g xs))) [
      | inl lt ↦ crowd_in g g fs m xs (λ y z a b. a ∙ sym b) (crowd fs m (filter g xs) (IsAscending-filter g xs asc) lt)
      | inr ge ↦
          let double : m * 2 ^ suc (length fs) ≡ m * 2 ^ length fs + m * 2 ^ length fs = ap (λ n. m * n) twice ∙ omega arith in
          crowd_in g (λ x. not (g x)) fs m xs (λ y z a b. not-true (g y) a ∙ sym (not-true (g z) b))
          (crowd fs m (filter (λ x. not (g x)) xs) (IsAscending-filter (λ x. not (g x)) xs asc) (omega arith))
    ]

count_case : (b c : Bool) (u v : ℕ) → (IsTrue b → IsTrue c) → u ≤ v → cond b 1 0 + u ≤ cond c 1 0 + v
count_case true true u v h le = omega arith
count_case true false u v h le = let x = h refl in cc
count_case false true u v h le = omega arith
count_case false false u v h le = omega arith

strict_case : (b c : Bool) (u v : ℕ) → IsFalse b → IsTrue c → u ≤ v → cond b 1 0 + u < cond c 1 0 + v
strict_case true c u v h k le = cc
strict_case false true u v h k le = omega arith
strict_case false false u v h k le = cc

lax_case : (b c : Bool) (u v : ℕ) → (IsTrue b → IsTrue c) → u < v → cond b 1 0 + u < cond c 1 0 + v
lax_case true true u v h le = omega arith
lax_case true false u v h le = let x = h refl in cc
lax_case false true u v h le = omega arith
lax_case false false u v h le = omega arith

-- a test that passes more counts more
pub count_by-le : {X : Type 0} (p q : X → Bool) (xs : List X) → ((x : X) → IsTrue (p x) → IsTrue (q x)) → count_by p xs ≤ count_by q xs
count_by-le p q [] h = omega arith
count_by-le p q (x ∷ xs) h =
    rw (sum_by-cons (λ y. cond (p y) 1 0) x xs, sum_by-cons (λ y. cond (q y) 1 0) x xs) (count_case (p x) (q x) _ _ (h x) (count_by-le p q xs h))

pub count_by-lt : {X : Type 0} (p q : X → Bool) (xs : List X) (e : X) → ((x : X) → IsTrue (p x) → IsTrue (q x)) → Contains xs e → IsFalse (p e) → IsTrue (q e)
    → count_by p xs < count_by q xs
count_by-lt p q [] e h c n y = absurd (Contains-nil e c)
count_by-lt p q (x ∷ xs) e h c n y =
    rw (sum_by-cons (λ y. cond (p y) 1 0) x xs, sum_by-cons (λ y. cond (q y) 1 0) x xs)
    (elim (Contains-cons_cases x xs e c) [
      | inl i ↦ strict_case (p x) (q x) _ _ (subst (λ z. IsFalse (p z)) (sym i) n) (subst (λ z. IsTrue (q z)) (sym i) y) (count_by-le p q xs h)
      | inr d ↦ lax_case (p x) (q x) _ _ (h x) (count_by-lt p q xs e h d n y)
    ])
