-- Lists of truth values: a value by its place, the first place at which two lists differ, and tests of all.
use Rattle.std.specs.Prelude.{ℕ, zero, suc, Bool, true, false, not, ◌&&◌, List, [], ◌∷◌, slice_index_or, Option, Some, None, if◌then◌else◌}

-- the value at a place, false behind the last one
abbrev pub value_at : List Bool → ℕ → Bool
value_at values place = slice_index_or values place false

-- the two values are one
abbrev pub is_same : Bool → Bool → Bool
is_same true b = b
is_same false b = not b

-- the place behind it
abbrev pub one_more : Option ℕ → Option ℕ
one_more (Some n) = Some (suc n)
one_more None = None

-- the first place at which two lists of values differ: that of the first two that do, or that behind the shorter list
abbrev pub difference : List Bool → List Bool → Option ℕ
difference [] [] = None
difference [] (y ∷ ys) = Some 0
difference (x ∷ xs) [] = Some 0
difference (x ∷ xs) (y ∷ ys) = if is_same x y then one_more (difference xs ys) else Some 0

-- no value is true
abbrev pub are_false : List Bool → Bool
are_false [] = true
are_false (x ∷ xs) = not x && are_false xs

-- the test passes at each number below n
abbrev pub passes_below : ℕ → (ℕ → Bool) → Bool
passes_below zero test = true
passes_below (suc n) test = passes_below n test && test n
