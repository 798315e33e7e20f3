-- The order in which the literals of a clause stand in the buffer.
use Rattle.std.specs.Prelude.{ℕ, ◌+◌, ◌-◌, nat_lt, if◌then◌else◌, List, [], ◌∷◌, reverse}

-- the first two, and behind them the others from the last down
abbrev pub turned : {X : Type 0} → List X → List X
turned [] = []
turned (x ∷ []) = x ∷ []
turned (x ∷ y ∷ rest) = x ∷ y ∷ reverse rest

-- where the one at a place stands then, among this number of them
abbrev pub turned_place : ℕ → ℕ → ℕ
turned_place len place = if nat_lt place 2 then place else len - place + 1
