-- Counts of faults and numbers of calls. Both stand still at the last value of a u64.
use Rattle.std.specs.Prelude.{ℕ, ◌+◌, ◌<◌, ◌≤◌, ◌⊎◌, nat_lt, if◌then◌else◌}

-- the last value, at which a count stands still
abbrev pub last_count : ℕ
last_count = 18446744073709551615

-- the count after one more
abbrev pub next_count : ℕ → ℕ
next_count count = if nat_lt count last_count then count + 1 else count

-- the count rose in a call: it is greater than before, or it stands at its last value
abbrev pub Rose : ℕ → ℕ → Type 0
Rose before after = (before < after) ⊎ (last_count ≤ after)

-- the count never falls, and never passes its last value
pub record Counts (before after : ℕ) : Type 0 where
  pub later : before ≤ after
  pub bounded : before ≤ last_count → after ≤ last_count
