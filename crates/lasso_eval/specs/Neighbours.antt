-- The values at the neighbours of a position.
use Rattle.std.specs.Prelude.{ℕ, zero, suc, ◌+◌, Bool, List, length, nat_lt, if◌then◌else◌}
use Rattle.lasso_eval.specs.Rows.{cell}

-- the value at the position before, or this one before position 0
abbrev pub earlier : List Bool → Bool → ℕ → Bool
earlier a before zero = before
earlier a before (suc i) = cell a i

-- the value at the position after: behind the last column, at the loop's start, or this one where there is no loop
abbrev pub later : List Bool → ℕ → Bool → ℕ → Bool
later a loop_start beyond i =
    if nat_lt (i + 1) (length a) then cell a (i + 1) else if nat_lt loop_start (length a) then cell a loop_start else beyond
