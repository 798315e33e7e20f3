-- Literals and clauses under the values of some letters.
use Rattle.std.specs.Prelude.{◌≡◌, ℕ, ◌+◌, ◌*◌, ◌/◌, Bool, true, false, not, if◌then◌else◌, List, map, length, Option, Some, None, slice_index_or, ◌<◌, ◌≤◌}
use Rattle.std.specs.Prelude.{All}
use Rattle.std.specs.List.{range_with_len}
use Rattle.cnf_base.specs.declared.literal.Literal.{Literal}

-- where it stands whether a literal is true: the two literals of a letter stand side by side
abbrev pub truth_place : Literal → ℕ
truth_place l = 2 * l.letter.0 + (if l.negated then 1 else 0)

-- a letter's value, from whether it is true and whether its negation is
abbrev pub told : Bool → Bool → Option Bool
told affirmed denied = if affirmed then Some true else (if denied then Some false else None)

abbrev pub letter_value : List Bool → ℕ → Option Bool
letter_value truths letter = told (slice_index_or truths (2 * letter) false) (slice_index_or truths (2 * letter + 1) false)

-- the values of the letters
abbrev pub values_of : List Bool → List (Option Bool)
values_of truths = map (letter_value truths) (range_with_len 0 (length truths / 2))

-- each letter has two places, and is not true and false at once
pub record AreTruths (truths : List Bool) : Type 0 where
  pub even : length truths ≡ 2 * (length truths / 2)
  pub once : (letter : ℕ) → slice_index_or truths (2 * letter) false ≡ true → slice_index_or truths (2 * letter + 1) false ≡ false

-- the value of a letter, if it has one
abbrev pub value_at : List (Option Bool) → ℕ → Option Bool
value_at values letter = slice_index_or values letter None

pub record IsTrueLiteral (values : List (Option Bool)) (l : Literal) : Type 0 where
  pub is : value_at values l.letter.0 ≡ Some (not l.negated)

pub record IsFalseLiteral (values : List (Option Bool)) (l : Literal) : Type 0 where
  pub is : value_at values l.letter.0 ≡ Some l.negated

pub record HasNoValue (values : List (Option Bool)) (l : Literal) : Type 0 where
  pub is : value_at values l.letter.0 ≡ None

-- the literal's letter is one of those from 1 to n - 1
abbrev pub IsBelow : ℕ → Literal → Type 0
IsBelow n l = (1 ≤ l.letter.0) × (l.letter.0 < n)

-- the letters of each clause are below n
abbrev pub AreBelow : ℕ → List (List Literal) → Type 0
AreBelow n clauses = All (λ clause. All (IsBelow n) clause) clauses
