-- What is found among the numbers below one: at the greatest of them, or at each in order.
use Rattle.std.specs.Prelude.{ℕ, zero, suc, Bool, true, false, List, [], ◌∷◌, ◌++◌, Option, Some, None}

-- the first of the two that is something
abbrev pub prefer : {X : Type 0} → Option X → Option X → Option X
prefer (Some x) other = Some x
prefer None other = other

-- what is found at the greatest number below n at which something is
abbrev pub nearest : {X : Type 0} → ℕ → (ℕ → Option X) → Option X
nearest zero found = None
nearest (suc n) found = prefer (found n) (nearest n found)

-- the list, and behind it what was found
abbrev pub with_found : {X : Type 0} → List X → Option X → List X
with_found xs (Some x) = xs ++ x ∷ []
with_found xs None = xs

-- what is found at the numbers below n, at the least of them first
abbrev pub all_found : {X : Type 0} → ℕ → (ℕ → Option X) → List X
all_found zero found = []
all_found (suc n) found = with_found (all_found n found) (found n)

-- something, where the test passes
abbrev pub where_true : {X : Type 0} → Bool → Option X → Option X
where_true true some = some
where_true false some = None
