-- Which clauses with hints are hinted steps, worked by hand over the three clauses that refute the formula `false`.
use Rattle.std.specs.Prelude.{ℕ, true, false, List, [], ◌∷◌}
use Rattle.cnf_base.specs.declared.literal.Literal.{Literal}
use Rattle.cnf_base.specs.declared.literal.Hint.{Hint}
use Rattle.cnf_base.specs.declared.literal.Hint.TheVariants.{Clause, Line}
use Rattle.cnf_base.specs.Step.{IsHintedStep}

-- the literal of a letter
abbrev pub plus : ℕ → Literal
plus n = record { letter = record { 0 = n }; negated = false }

-- its negation
abbrev pub minus : ℕ → Literal
minus n = record { letter = record { 0 = n }; negated = true }

-- (-6), (-2 6) and (-3 4)
abbrev pub clauses_of_false : List (List Literal)
clauses_of_false = (minus 6 ∷ []) ∷ (minus 2 ∷ plus 6 ∷ []) ∷ (minus 3 ∷ plus 4 ∷ []) ∷ []

-- a hinted step over these clauses, some earlier lines and the letters 1 to 6
abbrev pub IsStep : List (List Literal) → List Literal → List Hint → Type 0
IsStep lines clause hints = IsHintedStep clauses_of_false lines 6 clause hints

pub record WorkedSteps : Type 0 where
  -- 2 is true, clause 2 makes 6 true, clause 1 is false
  pub two_one : IsStep [] (minus 2 ∷ []) (Clause 2 ∷ Clause 1 ∷ [])
  -- clause 1 makes 6 false, clause 2 is false
  pub one_two : IsStep [] (minus 2 ∷ []) (Clause 1 ∷ Clause 2 ∷ [])
  -- a repeated literal counts once
  pub repeated : IsStep [] (minus 2 ∷ minus 2 ∷ []) (Clause 2 ∷ Clause 1 ∷ [])
  -- an earlier line serves as a clause does
  pub earlier : IsStep ((minus 6 ∷ []) ∷ []) (minus 2 ∷ []) (Clause 2 ∷ Line 1 ∷ [])
  pub no_hints : ¬ IsStep [] (minus 2 ∷ []) []
  -- clause 2 is not false at the end
  pub open_end : ¬ IsStep [] (minus 2 ∷ []) (Clause 2 ∷ [])
  -- the second hint has no literal left, which only the last may have
  pub early_end : ¬ IsStep [] (minus 2 ∷ []) (Clause 2 ∷ Clause 1 ∷ Clause 1 ∷ [])
  -- clause 3 has two literals without a value
  pub not_unit : ¬ IsStep [] (minus 2 ∷ []) (Clause 2 ∷ Clause 3 ∷ Clause 1 ∷ [])
  -- the one literal of clause 2 that is not false is true already
  pub already_true : ¬ IsStep [] (minus 2 ∷ []) (Clause 2 ∷ Clause 2 ∷ Clause 1 ∷ [])
  -- 2 and -2 are complementary
  pub complementary : ¬ IsStep [] (plus 2 ∷ minus 2 ∷ []) (Clause 2 ∷ Clause 1 ∷ [])
  -- the letter of the line's own literal is above the greatest one
  pub unknown_letter : ¬ IsStep [] (minus 2 ∷ plus 7 ∷ []) (Clause 2 ∷ Clause 1 ∷ [])
  -- letters are numbered from 1
  pub letter_zero : ¬ IsStep [] (minus 2 ∷ plus 0 ∷ []) (Clause 2 ∷ Clause 1 ∷ [])
  -- the first line has no line before it, least of all itself
  pub names_itself : ¬ IsStep [] (minus 2 ∷ []) (Clause 2 ∷ Line 1 ∷ [])
  -- numbers run from 1 to 3
  pub number_zero : ¬ IsStep [] (minus 2 ∷ []) (Clause 2 ∷ Clause 0 ∷ [])
  pub number_four : ¬ IsStep [] (minus 2 ∷ []) (Clause 2 ∷ Clause 4 ∷ [])
  -- the line that is named has a letter above the greatest one
  pub unknown_line : ¬ IsStep ((plus 7 ∷ []) ∷ []) (minus 2 ∷ []) (Line 1 ∷ Clause 2 ∷ Clause 1 ∷ [])
  -- the line that is named has the letter 0
  pub line_of_zero : ¬ IsStep ((plus 0 ∷ []) ∷ []) (minus 2 ∷ []) (Line 1 ∷ Clause 2 ∷ Clause 1 ∷ [])
