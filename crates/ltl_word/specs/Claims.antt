-- What the temporal operators say of claims on positions. P says which numbers are positions.
use Rattle.std.specs.Prelude.{◌≡◌, ℕ, suc, ◌+◌, ◌<◌, ◌≤◌, ⊤, ◌⊎◌}
use Rattle.ltl_syntax.specs.Shape.{Direction, Future, Past, Range, Step, Exactly, Between, Ever, Shape, Negation, Somewhere, Everywhere}

-- a claim on positions
abbrev pub Claim : Type 1
Claim = ℕ → Type 0

-- j is later than i by a step, by exactly n, by between a and b, or by any number, which may be 0
abbrev pub IsLater : Range → ℕ → ℕ → Type 0
IsLater Step i j = suc i ≡ j
IsLater (Exactly n) i j = i + n ≡ j
IsLater (Between a b) i j = (i + a ≤ j) × (j ≤ i + b)
IsLater Ever i j = i ≤ j

-- j is reached from i: it is a position that is later, or i is later than it
abbrev pub Reached : Claim → Direction → Range → ℕ → Claim
Reached P Future r i j = IsLater r i j × P j
Reached P Past r i j = IsLater r j i

-- A at some number that is reached
abbrev pub IsSomewhere : Claim → Direction → Range → Claim → Claim
IsSomewhere P d r A i = (j : ℕ) × Reached P d r i j × A j

-- A at each number that is reached
abbrev pub IsEverywhere : Claim → Direction → Range → Claim → Claim
IsEverywhere P d r A i = (j : ℕ) → Reached P d r i j → A j

-- what an operator of this shape says of A
abbrev pub OfShape : Claim → Shape → Claim → Claim
OfShape P Negation A i = A i → ⊥
OfShape P (Somewhere d r) A i = IsSomewhere P d r A i
OfShape P (Everywhere d r) A i = IsEverywhere P d r A i

-- B at some position from i on, and A at each position from i up to before it
abbrev pub IsUntil : Claim → Claim → Claim → Claim
IsUntil P A B i = (j : ℕ) × (i ≤ j) × P j × B j × ((k : ℕ) → i ≤ k → k < j → A k)

-- at each position from i on, B, or A at some position from i up to before it
abbrev pub IsReleased : Claim → Claim → Claim → Claim
IsReleased P A B i = (j : ℕ) → i ≤ j → P j → B j ⊎ ((k : ℕ) × (i ≤ k) × (k < j) × A k)

-- B at some position up to i, and A at each position after it up to i
abbrev pub IsSince : Claim → Claim → Claim
IsSince A B i = (j : ℕ) × (j ≤ i) × B j × ((k : ℕ) → j < k → k ≤ i → A k)

-- at each position up to i, B, or A at some position after it up to i
abbrev pub IsTriggered : Claim → Claim → Claim
IsTriggered A B i = (j : ℕ) → j ≤ i → B j ⊎ ((k : ℕ) × (j < k) × (k ≤ i) × A k)

abbrev pub Always' : Claim
Always' i = ⊤

abbrev pub Never : Claim
Never i = ⊥
