-- The places of the trail that wait, as bits of words.
use Rattle.std.specs.Prelude.{◌≡◌, ℕ, ◌<◌, ◌⊎◌, ◌/◌, ◌%◌, List, slice_index_or}
use Rattle.std.specs.Int.{bit_at}

-- the place's bit is set
abbrev pub IsWaiting : List ℕ → ℕ → Type 0
IsWaiting words place = bit_at (slice_index_or words (place / 64) 0) (place % 64) ≡ 1

-- the place is the last below `end` that may have waited, and what waited before it waits on
pub record IsNext (old new : List ℕ) (end place : ℕ) : Type 0 where
  pub low : place < end
  pub before : (p : ℕ) → p < end → IsWaiting old p → (p ≡ place) ⊎ ((p < place) × IsWaiting new p)
