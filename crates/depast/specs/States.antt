-- States with and without the new names.
use Rattle.std.specs.Prelude.{◌≡◌, ℕ, ◌<◌, ◌↔◌, List, [], length, slice_index_or, Contains}
use Rattle.ltl_word.specs.Trace.{Names}

-- the names of the one that the other does not contain
abbrev pub AreOthers : Names → Names → Names → Type 0
AreOthers new names others = (name : List ℕ) → Contains others name ↔ (Contains names name × (Contains new name → ⊥))

-- each state has the names of the state at its place that are not new
pub record AreLowered (new : Names) (states lowered : List Names) : Type 0 where
  pub count : length lowered ≡ length states
  pub each : (i : ℕ) → i < length states → AreOthers new (slice_index_or states i []) (slice_index_or lowered i [])
