-- The order in which letters wait.
use Rattle.std.specs.Prelude.{◌≡◌, ℕ, ◌^◌, ◌<◌, ◌≤◌, List, length, slice_index_or}

-- the letters in their order, the places at which they stand, and how many of the first ones wait
pub record OrderValue : Type 0 where
  pub letters : List ℕ
  pub places : List ℕ
  pub count : ℕ

-- the place of a letter
abbrev pub place_of : List ℕ → ℕ → ℕ
place_of places letter = slice_index_or places letter 0

-- the letter at a place
abbrev pub letter_at : List ℕ → ℕ → ℕ
letter_at letters place = slice_index_or letters place 0

-- each letter below the length stands at one place, no more letters wait than there are, and places are numbers of 32 bits
pub record IsOrder (letters places : List ℕ) (count : ℕ) : Type 0 where
  pub same : length letters ≡ length places
  pub within : count ≤ length letters
  pub few : length places ≤ 2 ^ 32
  pub inside : (x : ℕ) → x < length places → place_of places x < length letters
  pub stands : (x : ℕ) → x < length places → letter_at letters (place_of places x) ≡ x
  pub known : (p : ℕ) → p < length letters → letter_at letters p < length places
  pub back : (p : ℕ) → p < length letters → place_of places (letter_at letters p) ≡ p

-- the letter waits
pub record IsWaiting (v : OrderValue) (letter : ℕ) : Type 0 where
  pub known : letter < length v.places
  pub first : place_of v.places letter < v.count
