-- What a call takes of the source, where the source tells what it has left.
use Rattle.std.specs.Prelude.{◌≡◌, ◌⊎◌, ◌+◌, ◌<◌, ◌≤◌, ◌++◌, ℕ, List, [], length, Option, Some, IfSome}

-- the bytes are those that the source had left, where it tells them
abbrev pub AreLeft : Option (List ℕ) → List ℕ → Type 0
AreLeft rest bytes = IfSome rest (λ told. told ≡ bytes)

-- a told rest was taken whole, or up to the first read that brought what was taken above the limit. A read brings at most 65,536 bytes
abbrev pub IsTakenUpTo : ℕ → Option (List ℕ) → Option (List ℕ) → Type 0
IsTakenUpTo limit before after = IfSome before (λ rest. (bytes left : List ℕ) × (rest ≡ bytes ++ left) × (after ≡ Some left)
    × (length bytes ≤ limit + 65536) × ((left ≡ []) ⊎ (limit < length bytes)))

-- nothing is left of a told rest
abbrev pub IsTakenWhole : Option (List ℕ) → Option (List ℕ) → Type 0
IsTakenWhole before after = IfSome before (λ rest. after ≡ Some [])
