-- Hinted steps: reverse unit propagation with the order of the clauses given.
use Rattle.std.specs.Prelude.{◌≡◌, ℕ, zero, suc, ◌⊎◌, List, [], ◌∷◌, All, Contains, slice_get, slice_index_or, Option, Some, None, ◌-◌}
use Rattle.cnf_base.specs.declared.literal.Literal.{Literal}
use Rattle.cnf_base.specs.declared.literal.Hint.{Hint}
use Rattle.cnf_base.specs.declared.literal.Hint.TheVariants.{Clause, Line}
use Rattle.cnf_base.specs.Literal.{opposite}
use Rattle.cnf_base.specs.Known.{IsKnown}

-- the clause of a number that runs from 1, if there is one
abbrev pub numbered : List (List Literal) → ℕ → Option (List Literal)
numbered clauses zero = None
numbered clauses (suc n) = slice_get clauses n

-- the clause of a number from 1 to the count
abbrev pub clause_at : List (List Literal) → ℕ → List Literal
clause_at clauses number = slice_index_or clauses (number - 1) []

-- the clause that a hint names, among the clauses or the earlier lines
abbrev pub named : List (List Literal) → List (List Literal) → Hint → Option (List Literal)
named clauses lines (Clause number) = numbered clauses number
named clauses lines (Line number) = numbered lines number

-- no literal stands beside its opposite
abbrev pub HasNoPair : List Literal → Type 0
HasNoPair clause = (l : Literal) → Contains clause l → ¬ Contains clause (opposite l)

-- each literal of the clause is among the false ones
abbrev pub IsFalse : List Literal → List Literal → Type 0
IsFalse falses clause = All (λ l. Contains falses l) clause

-- u is the one literal of the clause that is not false, and it has no value
pub record IsUnit (falses clause : List Literal) (u : Literal) : Type 0 where
  pub there : Contains clause u
  pub not_false : ¬ Contains falses u
  pub not_true : ¬ Contains falses (opposite u)
  pub others : All (λ l. Contains falses l ⊎ (l ≡ u)) clause

-- the hint names this clause; each letter of a named line is one of those from 1 to the greatest
pub record Names (clauses lines : List (List Literal)) (greatest : ℕ) (hint : Hint) (clause : List Literal) : Type 0 where
  pub is : named clauses lines hint ≡ Some clause
  pub within : (number : ℕ) → hint ≡ Line number → All (IsKnown greatest) clause

-- the hints lead from these false literals to a false clause: each but the last makes one literal true
pub data Refutes (clauses lines : List (List Literal)) (greatest : ℕ) : List Literal → List Hint → Type 0 where
  conflict : {falses : List Literal} {hint : Hint} {clause : List Literal}
      → Names clauses lines greatest hint clause → IsFalse falses clause
      → Refutes clauses lines greatest falses (hint ∷ [])
  propagate : {falses : List Literal} {hint : Hint} {hints : List Hint} {clause : List Literal} {u : Literal}
      → Names clauses lines greatest hint clause → IsUnit falses clause u
      → Refutes clauses lines greatest (opposite u ∷ falses) hints
      → Refutes clauses lines greatest falses (hint ∷ hints)

-- the clause with these hints is a hinted step over the clauses and the earlier lines; each letter is one of those from 1 to the greatest
pub record IsHintedStep (clauses lines : List (List Literal)) (greatest : ℕ) (clause : List Literal) (hints : List Hint) : Type 0 where
  pub within : All (IsKnown greatest) clause
  pub no_pair : HasNoPair clause
  pub refutes : Refutes clauses lines greatest clause hints
