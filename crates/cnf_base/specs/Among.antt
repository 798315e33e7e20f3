-- Hinted steps where some lines may be named and others not: the definition of a hinted step over the lines that may be.
use Rattle.std.specs.Prelude.{◌≡◌, ℕ, List, [], ◌∷◌, All, Option, Some}
use Rattle.cnf_base.specs.declared.literal.Literal.{Literal}
use Rattle.cnf_base.specs.declared.literal.Hint.{Hint}
use Rattle.cnf_base.specs.declared.literal.Hint.TheVariants.{Clause, Line}
use Rattle.cnf_base.specs.Literal.{opposite}
use Rattle.cnf_base.specs.Step.{numbered, HasNoPair, IsFalse, IsUnit}
use Rattle.cnf_base.specs.Known.{IsKnown}

-- the clause that a hint names, among the clauses or the lines that may be named; these are given by their numbers
abbrev pub named_among : List (List Literal) → (ℕ → Option (List Literal)) → Hint → Option (List Literal)
named_among clauses lines (Clause number) = numbered clauses number
named_among clauses lines (Line number) = lines number

-- the hint names this clause; the letters of a named line are at most the greatest one
pub record NamesAmong (clauses : List (List Literal)) (lines : ℕ → Option (List Literal)) (greatest : ℕ) (hint : Hint) (clause : List Literal) : Type 0 where
  pub is : named_among clauses lines hint ≡ Some clause
  pub within : (number : ℕ) → hint ≡ Line number → All (IsKnown greatest) clause

-- the hints lead from these false literals to a false clause: each but the last makes one literal true
pub data RefutesAmong (clauses : List (List Literal)) (lines : ℕ → Option (List Literal)) (greatest : ℕ) : List Literal → List Hint → Type 0 where
  conflict : {falses : List Literal} {hint : Hint} {clause : List Literal}
      → NamesAmong clauses lines greatest hint clause → IsFalse falses clause
      → RefutesAmong clauses lines greatest falses (hint ∷ [])
  propagate : {falses : List Literal} {hint : Hint} {hints : List Hint} {clause : List Literal} {u : Literal}
      → NamesAmong clauses lines greatest hint clause → IsUnit falses clause u
      → RefutesAmong clauses lines greatest (opposite u ∷ falses) hints
      → RefutesAmong clauses lines greatest falses (hint ∷ hints)

-- the clause with these hints is a hinted step over the clauses, the lines that may be named and the greatest letter
pub record IsStepAmong (clauses : List (List Literal)) (lines : ℕ → Option (List Literal)) (greatest : ℕ) (clause : List Literal)
    (hints : List Hint) : Type 0 where
  pub within : All (IsKnown greatest) clause
  pub no_pair : HasNoPair clause
  pub refutes : RefutesAmong clauses lines greatest clause hints
