-- What the cells of a window of positions show.
use Rattle.std.specs.Prelude.{ℕ, ◌+◌, ◌-◌, ◌%◌, ◌<◌, ◌≤◌, Bool, true, false, not, List, length, Option, Some, None, nat_lt, if◌then◌else◌}
use Rattle.ltl_word.specs.Claims.{Claim}
use Rattle.lasso_eval.specs.Rows.{cell}

-- two truth values are one
abbrev pub same : Bool → Bool → Bool
same true b = b
same false b = not b

-- there is such a position and it has this value: behind the last column that of the column where the loop comes to
abbrev pub shows : Bool → List Bool → ℕ → ℕ → Bool
shows sought a start i =
    if nat_lt i (length a)
    then same sought (cell a i)
    else if nat_lt start (length a) then same sought (cell a (start + (i - start) % (length a - start))) else false

-- the nearest place from k on that has it, if one has
abbrev pub IsNearest : Claim → ℕ → Option ℕ → Type 0
IsNearest S k None = (j : ℕ) → k ≤ j → S j → ⊥
IsNearest S k (Some place) = (k ≤ place) × S place × ((j : ℕ) → k ≤ j → j < place → S j → ⊥)

-- the latest place before k that has it, if one has
abbrev pub IsLatest : Claim → ℕ → Option ℕ → Type 0
IsLatest S k None = (j : ℕ) → j < k → S j → ⊥
IsLatest S k (Some place) = (place < k) × S place × ((j : ℕ) → place < j → j < k → S j → ⊥)

-- there is a place, and it is not behind this one
abbrev pub IsAtMost : Option ℕ → ℕ → Type 0
IsAtMost None last = ⊥
IsAtMost (Some place) last = place ≤ last

-- there is a place, and it is not before this one
abbrev pub IsAtLeast : Option ℕ → ℕ → Type 0
IsAtLeast None last = ⊥
IsAtLeast (Some place) last = last ≤ place
