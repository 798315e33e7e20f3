-- The values of letters, and the literals that are false under them.
use Rattle.std.specs.Prelude.{◌≡◌, ℕ, suc, ◌+◌, ◌-◌, ◌<◌, ◌≤◌, Bool, true, false, List, [], ◌∷◌, length, take, slice_index_or, All, Contains}
use Rattle.std.specs.List.{sum_by}
use Rattle.cnf_base.specs.declared.literal.Literal.{Literal}
use Rattle.log_checker.specs.declared.assignment.Truth.{Truth}
use Rattle.log_checker.specs.declared.assignment.Truth.TheVariants.{Unset, True, False}

-- the greatest letter: the first value is that of no letter
abbrev pub letters_in : List Truth → ℕ
letters_in values = length values - 1

-- the value of a letter whose literal is false, negated or not
abbrev pub false_of : Bool → Truth
false_of true = True
false_of false = False

-- the value of a literal, negated or not, by that of its letter
abbrev pub signed : Bool → Truth → Truth
signed false value = value
signed true Unset = Unset
signed true True = False
signed true False = True

abbrev pub value_of : List Truth → Literal → Truth
value_of values l = signed l.negated (slice_index_or values l.letter.0 Unset)

-- the false literals, where the first of these values is that of letter x
abbrev pub falses_from : ℕ → List Truth → List Literal
falses_from x [] = []
falses_from x (Unset ∷ values) = falses_from (suc x) values
falses_from x (True ∷ values) = record { letter = record { 0 = x }; negated = true } ∷ falses_from (suc x) values
falses_from x (False ∷ values) = record { letter = record { 0 = x }; negated = false } ∷ falses_from (suc x) values

-- the literals that are false
abbrev pub falses_in : List Truth → List Literal
falses_in values = falses_from 0 values

-- 1 for a letter that has no value, 0 for another
abbrev pub is_open : Truth → ℕ
is_open Unset = 1
is_open True = 0
is_open False = 0

-- how many letters have no value
abbrev pub unset : List Truth → ℕ
unset values = sum_by is_open values

-- the letters that have a value are among the first ones of the trail, where there is room for all
pub record AreSet (values : List Truth) (trail : List ℕ) (used : ℕ) : Type 0 where
  pub size : length trail ≡ length values
  pub room : used + unset values ≤ length trail
  pub known : All (λ x. x < length values) (take used trail)
  pub there : (x : ℕ) → x < length values → ¬ (slice_index_or values x Unset ≡ Unset) → Contains (take used trail) x
