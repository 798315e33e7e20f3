-- What follows from the literals that a clause keeps: the letters whose values do so, each by a reason of which everything else is given.
use Rattle.std.specs.Prelude.{◌≡◌, ◌≢◌, ℕ, ◌<◌, ◌≤◌, ◌⊎◌, true, false, List, Some, All, AllPairs, Contains, map, ◌++◌, take, length}
use Rattle.cnf_base.specs.declared.literal.Literal.{Literal}
use Rattle.cnf_base.specs.declared.literal.Hint.{Hint}
use Rattle.cnf_base.specs.Literal.{opposite}
use Rattle.cnf_base.specs.Step.{named}
use Rattle.cdcl_trail.specs.Trail.{literal_at, place_reason}
use Rattle.cdcl_trail.specs.declared.assigned.TrailEntry.{TrailEntry}
use Rattle.cdcl_analyze.specs.Marks.{MarksValue, IsMarked, outcome_of, letter_at, reason_at, IsAmong}
use Rattle.cdcl_analyze.specs.Analysis.{AreWaiting}
use Rattle.cdcl_analyze.specs.Graph.{GraphValue}

-- the letter stands on the trail below the end
abbrev pub StandsBelow : List TrailEntry → ℕ → ℕ → Type 0
StandsBelow trail end letter = (p : ℕ) × (p < end) × ((literal_at trail p).letter.0 ≡ letter)

-- the letter is marked and its value does not follow: the clause keeps it
abbrev pub IsKept : MarksValue → ℕ → Type 0
IsKept m letter = IsMarked m letter × (outcome_of m letter ≡ Some false)

-- the letter is marked and stands below the base
abbrev pub IsBasic : List TrailEntry → ℕ → MarksValue → ℕ → Type 0
IsBasic trail base m letter = IsMarked m letter × StandsBelow trail base letter

-- the letter's value is known once the clause is false and what is marked below the base is known
abbrev pub IsGiven : List TrailEntry → ℕ → MarksValue → ℕ → Type 0
IsGiven trail base m letter = IsKept m letter ⊎ ((outcome_of m letter ≡ Some true) ⊎ IsBasic trail base m letter)

-- the same, where of what follows the first i are known
abbrev pub IsGivenBy : List TrailEntry → ℕ → MarksValue → ℕ → ℕ → Type 0
IsGivenBy trail base m i letter = IsKept m letter ⊎ (IsAmong m i letter ⊎ IsBasic trail base m letter)

-- the letter stands from the base on, with this reason
pub record HasReason (trail : List TrailEntry) (base letter : ℕ) (reason : Hint) : Type 0 where
  pub place : ℕ
  pub high : base ≤ place
  pub inside : place < length trail
  pub is : (literal_at trail place).letter.0 ≡ letter
  pub reason_is : place_reason trail place ≡ Some reason

-- the letter's value follows by the reason from what is given by the first i
pub record FollowsBy (inputs lines : List (List Literal)) (trail : List TrailEntry) (base : ℕ) (m : MarksValue) (i letter : ℕ) (reason : Hint) : Type 0 where
  pub why : HasReason trail base letter reason
  pub clause : List Literal
  pub is : named inputs lines reason ≡ Some clause
  pub others : All (λ l. (l.letter.0 ≡ letter) ⊎ IsGivenBy trail base m i l.letter.0) clause

-- each consequence follows from those before it, they are of different letters, and just these letters are remembered to follow
pub record AreConsequences (inputs lines : List (List Literal)) (trail : List TrailEntry) (base : ℕ) (m : MarksValue) : Type 0 where
  pub each : (i : ℕ) → i < length m.consequences → FollowsBy inputs lines trail base m i (letter_at m i) (reason_at m i)
  pub follow : (i : ℕ) → i < length m.consequences → outcome_of m (letter_at m i) ≡ Some true
  pub apart : (i j : ℕ) → i < j → j < length m.consequences → letter_at m i ≢ letter_at m j
  pub all : (x : ℕ) → outcome_of m x ≡ Some true → IsAmong m (length m.consequences) x

-- more is found out, of letters below the end alone, and nothing is lost
pub record Grows (inputs lines : List (List Literal)) (trail : List TrailEntry) (base end : ℕ) (old new : MarksValue) : Type 0 where
  pub consequences : AreConsequences inputs lines trail base new
  pub marked : (x : ℕ) → IsMarked old x → IsMarked new x
  pub based : (x : ℕ) → IsMarked new x → IsMarked old x ⊎ StandsBelow trail base x
  pub kept : (x : ℕ) → IsKept old x → IsKept new x
  pub follow : (x : ℕ) → outcome_of old x ≡ Some true → outcome_of new x ≡ Some true
  pub fresh : (x : ℕ) → (outcome_of new x ≡ outcome_of old x) ⊎ StandsBelow trail end x
  pub long : length old.consequences ≤ length new.consequences
  pub first : take (length old.consequences) new.consequences ≡ old.consequences
  pub waiting : (e : ℕ) → AreWaiting trail e old → AreWaiting trail e new

-- the same of letters below wherever this one stands
abbrev pub GrowsBy : GraphValue → ℕ → ℕ → MarksValue → MarksValue → Type 0
GrowsBy graph base letter old new = (end : ℕ) → StandsBelow graph.trail end letter → Grows graph.log.inputs graph.log.lines graph.trail base end old new

-- what follows from the marks can be asked of each letter, with this base
pub record CanAsk (graph : GraphValue) (base : ℕ) (m : MarksValue) : Type 0 where
  pub size : length graph.values ≤ length m.stamps
  pub within : base ≤ length graph.trail
  pub consequences : AreConsequences graph.log.inputs graph.log.lines graph.trail base m

-- of the marked places from `end` up to `from` the clause got those that do not follow, the last first; what follows stands below `from`
pub record IsRest (inputs lines : List (List Literal)) (trail : List TrailEntry) (base from end : ℕ) (old new : MarksValue)
    (clause : List Literal) (places : List ℕ)
    (more : List Literal) (next : List ℕ) : Type 0 where
  pub consequences : AreConsequences inputs lines trail base new
  pub marked : (x : ℕ) → IsMarked old x → IsMarked new x
  pub under : (x : ℕ) → outcome_of new x ≡ Some true → StandsBelow trail from x
  pub added : List ℕ
  pub places_is : next ≡ places ++ added
  pub clause_is : more ≡ clause ++ map (λ p. opposite (literal_at trail p)) added
  pub inside : All (λ p. (end ≤ p) × (p < from) × (outcome_of new (literal_at trail p).letter.0 ≡ Some false)) added
  pub falling : AllPairs (λ p q. q < p) added
  pub settled : (j : ℕ) → end ≤ j → j < from → IsMarked new (literal_at trail j).letter.0
      → (outcome_of new (literal_at trail j).letter.0 ≡ Some true) ⊎ Contains added j
