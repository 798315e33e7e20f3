-- What a source has left, and what a sink has taken, where they tell it.
use Rattle.std.specs.Prelude.{◌≡◌, ◌<◌, ◌≤◌, ◌⊎◌, ◌++◌, ℕ, List, [], Option, Some, length, take, drop, IfSome}

-- a told rest lost its first n bytes, which stand at the front of into; n is 0 only where nothing was left
abbrev pub Gives : ℕ → List ℕ → Option (List ℕ) → Option (List ℕ) → Type 0
Gives n into before after = IfSome before (λ rest.
    (n ≤ length rest) × (take n into ≡ take n rest) × (after ≡ Some (drop n rest)) × (n ≡ 0 → rest ≡ []))

-- what is told stays as it was
abbrev pub Stays : Option (List ℕ) → Option (List ℕ) → Type 0
Stays before after = IfSome before (λ told. after ≡ Some told)

-- a told content grew by these bytes
abbrev pub Grows : List ℕ → Option (List ℕ) → Option (List ℕ) → Type 0
Grows bytes before after = IfSome before (λ content. after ≡ Some (content ++ bytes))

-- a told rest was these bytes and what is told now
abbrev pub Loses : List ℕ → Option (List ℕ) → Option (List ℕ) → Type 0
Loses bytes before after = IfSome before (λ rest. (left : List ℕ) × (rest ≡ bytes ++ left) × (after ≡ Some left))

-- a told rest lost a front of at most this number of bytes, and is untouched behind it
abbrev pub LosesAtMost : ℕ → Option (List ℕ) → Option (List ℕ) → Type 0
LosesAtMost most before after = IfSome before (λ rest. (bytes left : List ℕ) × (rest ≡ bytes ++ left) × (length bytes ≤ most) × (after ≡ Some left))

-- a told rest lost these bytes, which are all of it or more than stop_after
abbrev pub TakesWhole : ℕ → List ℕ → Option (List ℕ) → Option (List ℕ) → Type 0
TakesWhole stop_after bytes before after = IfSome before (λ rest. (left : List ℕ) × (rest ≡ bytes ++ left) × (after ≡ Some left)
    × ((left ≡ []) ⊎ (stop_after < length bytes)))

-- a told content grew by some front of these bytes
abbrev pub GrowsByFront : List ℕ → Option (List ℕ) → Option (List ℕ) → Type 0
GrowsByFront bytes before after = IfSome before (λ content. (n : ℕ) × (n ≤ length bytes) × (after ≡ Some (content ++ take n bytes)))
