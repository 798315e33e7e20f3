-- The values and the trail.
use Rattle.std.specs.Prelude.{◌≡◌, ℕ, ◌^◌, ◌<◌, ◌≤◌, List, Option, Bool, length, slice_index_or}
use Rattle.cdcl_trail.specs.Trail.{literal_at}
use Rattle.cdcl_trail.specs.declared.assigned.TrailEntry.{TrailEntry}

pub record AssignedValue : Type 0 where
  pub values : List (Option Bool)
  pub trail : List TrailEntry

-- each letter has a place, and that of a letter of the trail is the one at which it stands; letters have numbers of 32 bits
pub record ArePlaces (places : List ℕ) (values : List (Option Bool)) (trail : List TrailEntry) : Type 0 where
  pub room : length values ≤ length places
  pub few : length values ≤ 2 ^ 32
  pub at : (k : ℕ) → k < length trail → slice_index_or places (literal_at trail k).letter.0 0 ≡ k
