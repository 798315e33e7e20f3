-- The walk down the trail that explains a conflict.
use Rattle.std.specs.Prelude.{◌≡◌, ℕ, ◌+◌, ◌^◌, ◌<◌, ◌≤◌, ◌⊎◌, Bool, List, [], ◌∷◌, ◌++◌, Option, None, map, take, reverse, length, All, AllPairs, Contains}
use Rattle.std.specs.Prelude.{slice_index_or}
use Rattle.cnf_base.specs.declared.literal.Literal.{Literal}
use Rattle.cnf_base.specs.declared.literal.Hint.{Hint}
use Rattle.cnf_base.specs.Literal.{opposite}
use Rattle.cnf_base.specs.Step.{Refutes}
use Rattle.clause_log.specs.LogValue.{LogValue, greatest_u32}
use Rattle.cdcl_trail.specs.Trail.{IsTrail, AreValues, blank_entry, literal_at, IsInside}
use Rattle.cdcl_analyze.specs.Graph.{GraphValue}
use Rattle.cdcl_analyze.specs.Marks.{MarksValue, IsMarked}
use Rattle.cdcl_analyze.specs.Waiting.{IsWaiting}
use Rattle.cdcl_trail.specs.declared.assigned.TrailEntry.{TrailEntry}
use Rattle.cdcl_analyze.specs.declared.analyze.Learnt.{Learnt}

-- the letters of the trail are numbered from 1
abbrev pub AreFromOne : List TrailEntry → Type 0
AreFromOne trail = All (λ e. 1 ≤ e.literal.letter.0) trail

-- of the trail's first `end` places each whose letter is marked waits
abbrev pub AreWaiting : List TrailEntry → ℕ → MarksValue → Type 0
AreWaiting trail end marks = (j : ℕ) → j < end → j < length trail → IsMarked marks (literal_at trail j).letter.0 → IsWaiting marks.waiting j

-- a walk can go down from a place: each letter can be marked, and the marked ones below wait
pub record CanWalk (graph : GraphValue) (from : ℕ) (marks : MarksValue) : Type 0 where
  pub within : from ≤ length graph.trail
  pub size : length graph.values ≤ length marks.stamps
  pub waiting : AreWaiting graph.trail from marks

-- m is the opposite of a literal of the trail's first k
abbrev pub IsUnder : List TrailEntry → ℕ → Literal → Type 0
IsUnder trail k m = (j : ℕ) × (j < k) × (m ≡ opposite (literal_at trail j))

-- the false literals have the opposites of the marked ones below k and the clause, and nothing else that is not below k
pub record Covers (trail : List TrailEntry) (k : ℕ) (marked : ℕ → Type 0) (clause falses : List Literal) : Type 0 where
  pub marked_in : (j : ℕ) → j < k → marked (literal_at trail j).letter.0 → Contains falses (opposite (literal_at trail j))
  pub clause_in : All (Contains falses) clause
  pub only : All (λ m. Contains clause m ⊎ IsUnder trail k m) falses

-- the part of the trail from k on is explained
pub record IsWalk (inputs lines : List (List Literal)) (trail : List TrailEntry) (k : ℕ) (marked : ℕ → Type 0) (clause : List Literal) (hints : List Hint)
    (places : List ℕ) : Type 0 where
  pub explains : (falses : List Literal) → Covers trail k marked clause falses → Refutes inputs lines greatest_u32 falses (reverse hints)
  pub clause_is : clause ≡ map (λ p. opposite (literal_at trail p)) places
  pub inside : All (IsInside trail) places
  pub above : All (λ p. k ≤ p) places
  pub falling : AllPairs (λ p q. q < p) places
  pub within : k ≤ length trail

-- what is explained from one place on is then explained from the other place on, with what the marks and the clause have become
abbrev pub Walks : LogValue → List TrailEntry → ℕ → ℕ → MarksValue → MarksValue → Learnt → Learnt → Type 0
Walks log trail from to old new learnt more =
    IsWalk log.inputs log.lines trail from (IsMarked old) learnt.clause.items learnt.hints.items learnt.places.items
    → IsWalk log.inputs log.lines trail to (IsMarked new) more.clause.items more.hints.items more.places.items

-- the other trail is one of the same log, and has the graph's entries below `from`
pub record IsLike (graph : GraphValue) (other : List TrailEntry) (from : ℕ) : Type 0 where
  pub same : (k : ℕ) → k < from → slice_index_or other k blank_entry ≡ slice_index_or graph.trail k blank_entry
  pub long : from ≤ length other
  pub is_trail : IsTrail graph.log.inputs graph.log.lines other
  pub values : List (Option Bool)
  pub told : AreValues values other
  pub few : length values ≤ 2 ^ 32

-- the trail up to a place, and then the decision that the literal there is false
abbrev pub refuted_at : List TrailEntry → ℕ → List TrailEntry
refuted_at trail place = take place trail ++ record { literal = opposite (literal_at trail place); level = place + 1; reason = None } ∷ []
