-- Searches among finitely many things: a member of a list, a list of members, a number below another.
use Rattle.std.proofs.Common.{◌≡◌, ℕ, zero, suc, ◌<◌, ◌≤◌, ◌⊎◌, inl, inr, List, [], ◌∷◌, length, get_or, All, Contains, refl, sym, subst, arith}
use Rattle.std.proofs.lemmas.Bool.{cases_lt}
use Rattle.std.proofs.lemmas.List.Elements.{All-nil, All-cons, All-head, All-tail}
use Rattle.derivation.proofs.Renaming.{Contains-here, Contains-there, Contains-cases, Contains-nil}

-- a member has it, or none has
pub among : {X : Type 0} (Q : X → Type 0) (xs : List X) → ((x : X) → Contains xs x → Q x ⊎ ¬ Q x)
    → ((x : X) × Contains xs x × Q x) ⊎ ((x : X) → Contains xs x → ¬ Q x)
among Q [] decide = inr (λ x c. absurd (Contains-nil x c))
among Q (y ∷ xs) decide = elim (decide y (Contains-here y xs)) [
  | inl q ↦ inl (y, Contains-here y xs, q)
  | inr not ↦ elim (among Q xs (λ x c. decide x (Contains-there y x xs c))) [
    | inl w ↦ inl (w.0, Contains-there y w.0 xs w.1, w.2)
    | inr none ↦ inr (λ x c. elim (Contains-cases y x xs c) [ inl e ↦ λ q. not (subst Q (sym e) q) | inr there ↦ none x there ])
  ]
]

-- a list of at most n members has it, or none has
pub some_list : {X : Type 0} (all : List X) (n : ℕ) (P : List X → Type 0) → ((xs : List X) → All (Contains all) xs → P xs ⊎ ¬ P xs)
    → ((xs : List X) × (length xs ≤ n) × All (Contains all) xs × P xs) ⊎ ((xs : List X) → length xs ≤ n → All (Contains all) xs → ¬ P xs)
some_list all zero P decide = elim (decide [] (All-nil (Contains all))) [
  | inl p ↦ inl ([], omega arith, All-nil (Contains all), p)
  | inr not ↦ inr (only not)
]
  where
    only : ¬ P [] → (xs : List _) → length xs ≤ 0 → All (Contains all) xs → ¬ P xs
    only not [] few own p = not p
    only not (x ∷ xs) few own p = omega arith
some_list {X} all (suc n) P decide = elim (decide [] (All-nil (Contains all))) [
  | inl p ↦ inl ([], omega arith, All-nil (Contains all), p)
  | inr not ↦ elim (among (λ x. (xs : List X) × (length xs ≤ n) × All (Contains all) xs × P (x ∷ xs)) all (λ x c.
      behind x (some_list all n (λ xs. P (x ∷ xs)) (λ xs own. decide (x ∷ xs) (All-cons (Contains all) x xs c own))))) [
        | inl (x, c, (xs, few, own, p)) ↦ inl (x ∷ xs, omega arith, All-cons (Contains all) x xs c own, p)
        | inr none ↦ inr (only not none)
      ]
]
  where
    behind : (x : X)
        → ((xs : List X) × (length xs ≤ n) × All (Contains all) xs × P (x ∷ xs)) ⊎ ((xs : List X) → length xs ≤ n → All (Contains all) xs → ¬ P (x ∷ xs))
        → ((xs : List X) × (length xs ≤ n) × All (Contains all) xs × P (x ∷ xs)) ⊎ ¬ ((xs : List X) × (length xs ≤ n) × All (Contains all) xs × P (x ∷ xs))
    behind x (inl w) = inl w
    behind x (inr none) = inr (λ w. none w.0 w.1 w.2 w.3)

    only : ¬ P [] → ((x : X) → Contains all x → ¬ ((xs : List X) × (length xs ≤ n) × All (Contains all) xs × P (x ∷ xs)))
        → (xs : List X) → length xs ≤ suc n → All (Contains all) xs → ¬ P xs
    only not none [] few own p = not p
    only not none (x ∷ xs) few own p = none x (All-head (Contains all) x xs own) (xs, omega arith, All-tail (Contains all) x xs own, p)

-- a number below n has it, or none has
pub some_number : (Q : ℕ → Type 0) → ((k : ℕ) → Q k ⊎ ¬ Q k) → (n : ℕ) → ((k : ℕ) × (k < n) × Q k) ⊎ ((k : ℕ) → k < n → ¬ Q k)
some_number Q decide zero = inr (λ k lt. absurd (omega arith))
some_number Q decide (suc n) = elim (some_number Q decide n) [
  | inl w ↦ inl (w.0, omega arith, w.2)
  | inr none ↦ elim (decide n) [
    | inl q ↦ inl (n, omega arith, q)
    | inr not ↦ inr (λ k lt. elim (cases_lt k n) [ inl low ↦ none k low | inr high ↦ let same : k ≡ n = omega arith in λ q. not (subst Q same q) ])
  ]
]

-- each number below n has it, or not each has
pub each_number : (Q : ℕ → Type 0) (n : ℕ) → ((k : ℕ) → k < n → Q k ⊎ ¬ Q k) → ((k : ℕ) → k < n → Q k) ⊎ ¬ ((k : ℕ) → k < n → Q k)
each_number Q zero decide = inl (λ k lt. absurd (omega arith))
each_number Q (suc n) decide = elim (each_number Q n (λ k lt. decide k (omega arith))) [
  | inr not ↦ inr (λ each. not (λ k lt. each k (omega arith)))
  | inl before ↦ elim (decide n (omega arith)) [
    | inr not ↦ inr (λ each. not (each n (omega arith)))
    | inl q ↦ inl (λ k lt. elim (cases_lt k n) [ inl low ↦ before k low | inr high ↦ let same : n ≡ k = omega arith in subst Q same q ])
  ]
]

pub both_or_not : {A B : Type 0} → A ⊎ ¬ A → B ⊎ ¬ B → (A × B) ⊎ ¬ (A × B)
both_or_not (inl a) (inl b) = inl (a, b)
both_or_not (inl a) (inr n) = inr (λ p. n p.1)
both_or_not (inr n) b = inr (λ p. n p.0)

-- a list with one member for each number below n
pub listed : {A : Type 0} (d : A) (P : ℕ → A → Type 0) (n : ℕ) → ((i : ℕ) → i < n → (x : A) × P i x)
    → (xs : List A) × (length xs ≡ n) × ((i : ℕ) → i < n → P i (get_or xs i d))
listed d P zero each = ([], refl, λ i lt. absurd (omega arith))
listed {A} d P (suc n) each =
    let first = each zero (omega arith) in
    let rest = listed d (λ i. P (suc i)) n (λ i low. each (suc i) (omega arith)) in
    let count = rest.1 in
    (first.0 ∷ rest.0, omega arith, by first.0 first.1 rest.0 rest.2)
  where
    by : (x : A) → P zero x → (xs : List A) → ((i : ℕ) → i < n → P (suc i) (get_or xs i d)) → (i : ℕ) → i < suc n → P i (get_or (x ∷ xs) i d)
    by x one xs more zero low = one
    by x one xs more (suc i) low = more i (omega arith)
