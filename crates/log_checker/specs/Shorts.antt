-- The short form of clauses.
use Rattle.std.specs.Prelude.{◌≡◌, ℕ, ◌/◌, ◌%◌, ◌<◌, ◌==◌, List, [], ◌∷◌, length, slice_index_or, ⊤}
use Rattle.cnf_base.specs.declared.literal.Literal.{Literal}
use Rattle.log_checker.specs.declared.stored.Short.{Short}
use Rattle.log_checker.specs.declared.stored.Short.TheVariants.{One, Two, Three, Other}

-- the literal of a number
abbrev pub literal_of : ℕ → Literal
literal_of n = record { letter = record { 0 = n / 2 }; negated = (n % 2 == 1) }

-- this is the clause, where its short form is there
abbrev pub IsShort : Short → List Literal → Type 0
IsShort (One a) clause = clause ≡ literal_of a ∷ []
IsShort (Two a b) clause = clause ≡ literal_of a ∷ literal_of b ∷ []
IsShort (Three a b c) clause = clause ≡ literal_of a ∷ literal_of b ∷ literal_of c ∷ []
IsShort Other clause = ⊤

-- the short forms of the clauses, in their order
pub record AreShorts (shorts : List Short) (clauses : List (List Literal)) : Type 0 where
  pub count : length shorts ≡ length clauses
  pub each : (k : ℕ) (d : Short) → k < length clauses → IsShort (slice_index_or shorts k d) (slice_index_or clauses k [])
