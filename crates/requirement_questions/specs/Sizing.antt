-- How much each formula adds to the size of the one that says all of them.
use Rattle.std.specs.Prelude.{ℕ, ◌+◌, List, [], ◌∷◌}
use Rattle.ltl_syntax.specs.Formula.{Formula}
use Rattle.ltl_syntax.specs.Size.{formula_size}

-- the size of each and one more, for its `&`
abbrev pub steps_of : List Formula → ℕ
steps_of [] = 0
steps_of (f ∷ rest) = formula_size f + 1 + steps_of rest
