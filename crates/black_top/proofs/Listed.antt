-- A list with one entry for each of the first n numbers.
use Rattle.std.proofs.Common.{◌≡◌, ℕ, zero, suc, ◌<◌, List, [], ◌∷◌, length, get_or, refl, arith}

-- the entries are of their numbers
abbrev pub AreListed : {A : Type 0} → A → (ℕ → A → Type 0) → ℕ → List A → Type 0
AreListed d P n xs = (length xs ≡ n) × ((i : ℕ) → i < n → P i (get_or xs i d))

pub listed : {A : Type 0} (d : A) (P : ℕ → A → Type 0) (n : ℕ) → ((i : ℕ) → i < n → (x : A) × P i x) → (xs : List A) × AreListed d P n xs
listed d P zero each = ([], (refl, λ i low. absurd (omega arith)))
listed {A} d P (suc n) each =
    let first = each zero (omega arith) in
    let rest = listed d (λ i. P (suc i)) n (λ i low. each (suc i) (omega arith)) in
    let count = rest.1.0 in
    (first.0 ∷ rest.0, (omega arith, by first.0 first.1 rest.0 rest.1.1))
  where
    by : (x : A) → P zero x → (xs : List A) → ((i : ℕ) → i < n → P (suc i) (get_or xs i d)) → (i : ℕ) → i < suc n → P i (get_or (x ∷ xs) i d)
    by x one xs more zero low = one
    by x one xs more (suc i) low = more i (omega arith)
