-- Rows as places in one flat list.
use Rattle.std.specs.Prelude.{◌≡◌, ℕ, zero, suc, ◌-◌, ◌≤◌, List, [], ◌∷◌, ◌++◌, length, map, All, AllPairs, slice_range, slice_index_or, slice_set}

-- where a row stands: from the first place up to but without the second
pub record Place : Type 0 where
  pub from : ℕ
  pub to : ℕ

-- the places of rows by where they end: each begins where the one before it ends
abbrev pub places_of : ℕ → List ℕ → List Place
places_of start [] = []
places_of start (end ∷ ends) = record { from = start; to = end } ∷ places_of end ends

-- where the row of this index begins
abbrev pub start_of : ℕ → List ℕ → ℕ → ℕ
start_of start ends zero = start
start_of start ends (suc index) = slice_index_or ends index 0

-- the items of each place
abbrev pub row_pieces : {X : Type 0} → List X → List Place → List (List X)
row_pieces items places = map (λ s. slice_range items s.from s.to) places

-- each place begins where the one before it ends, the first at the start and the last up to the end
abbrev pub AreTiles : ℕ → List Place → ℕ → Type 0
AreTiles start [] end = start ≡ end
AreTiles start (place ∷ places) end = (place.from ≡ start) × (start ≤ place.to) × AreTiles place.to places end

-- a place that ends within the list
pub record IsPlace (end : ℕ) (place : Place) : Type 0 where
  pub forward : place.from ≤ place.to
  pub inside : place.to ≤ end

-- the places lie in the list one behind the other
pub record AreFlat (end : ℕ) (places : List Place) : Type 0 where
  pub each : All (IsPlace end) places
  pub ordered : AllPairs (λ s t. s.to ≤ t.from) places

-- the item is put behind the others of the last row
abbrev pub lengthened : {X : Type 0} → List (List X) → X → List (List X)
lengthened rows item = slice_set rows (length rows - 1) (slice_index_or rows (length rows - 1) [] ++ item ∷ [])
