-- What a stack of node numbers stands for: the top, which is the last, comes first.
use Rattle.std.specs.Prelude.{ℕ, List, [], ◌∷◌, ◌++◌}
use Rattle.ltl_syntax.specs.Table.{Table}
use Rattle.ltl_syntax.specs.Flat.{order_at}

-- the orders of the numbers on a stack, from the top on
abbrev pub pending : Table → List ℕ → List ℕ
pending t [] = []
pending t (number ∷ rest) = pending t rest ++ order_at t number
