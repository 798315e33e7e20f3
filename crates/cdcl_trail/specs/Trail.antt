-- The trail: its literals, why each stands there, and what it has to do with values and clauses.
use Rattle.std.specs.Prelude.{◌≡◌, ◌≢◌, ℕ, ◌+◌, ◌<◌, ◌≤◌, ◌⊎◌, Bool, true, false, not, List, map, length, take, All, AllPairs, Contains, Option, Some, None}
use Rattle.std.specs.Prelude.{IfSome, slice_index_or}
use Rattle.cnf_base.specs.declared.literal.Literal.{Literal}
use Rattle.cnf_base.specs.declared.literal.Hint.{Hint}
use Rattle.cnf_base.specs.Literal.{opposite}
use Rattle.cnf_base.specs.Step.{named}
use Rattle.cdcl_trail.specs.Values.{value_at}
use Rattle.cdcl_trail.specs.declared.assigned.TrailEntry.{TrailEntry}

-- the literals that are true
abbrev pub literals_of : List TrailEntry → List Literal
literals_of trail = map (λ e. e.literal) trail

-- the hint's clause forces u: its other literals are opposites of literals that stood before
pub record IsReason (inputs lines : List (List Literal)) (before : List Literal) (u : Literal) (hint : Hint) : Type 0 where
  pub clause : List Literal
  pub is : named inputs lines hint ≡ Some clause
  pub there : Contains clause u
  pub others : All (λ l. (l ≡ u) ⊎ Contains before (opposite l)) clause

-- the hint's clause has only opposites of true literals
pub record IsConflict (inputs lines : List (List Literal)) (trail : List Literal) (hint : Hint) : Type 0 where
  pub clause : List Literal
  pub is : named inputs lines hint ≡ Some clause
  pub all_false : All (λ l. Contains trail (opposite l)) clause

-- neither the literal nor its opposite is true
pub record IsUnset (trail : List Literal) (u : Literal) : Type 0 where
  pub not_true : ¬ Contains trail u
  pub not_false : ¬ Contains trail (opposite u)

-- some entry has this level
abbrev pub HasLevel : List TrailEntry → ℕ → Type 0
HasLevel trail level = Contains (map (λ e. e.level) trail) level

-- an entry stands at a place of the trail: it has a reason before it, or it is a decision with the level of its place
pub record StandsAt (inputs lines : List (List Literal)) (before : List TrailEntry) (e : TrailEntry) : Type 0 where
  pub reason : IfSome e.reason
      (λ hint. IsReason inputs lines (literals_of before) e.literal hint × (e.level ≤ length before) × ((e.level ≡ 0) ⊎ HasLevel before e.level))
  pub decision : e.reason ≡ None → e.level ≡ length before + 1
  pub rising : All (λ f. f.level ≤ e.level) before

-- each entry stands at its place
abbrev pub IsTrail : List (List Literal) → List (List Literal) → List TrailEntry → Type 0
IsTrail inputs lines trail = (k : ℕ) (d : TrailEntry) → k < length trail → StandsAt inputs lines (take k trail) (slice_index_or trail k d)

-- the value of a letter is told by the trail
pub record AreValues (values : List (Option Bool)) (trail : List TrailEntry) : Type 0 where
  pub true_on : All (λ e. value_at values e.literal.letter.0 ≡ Some (not e.literal.negated)) trail
  pub on_trail : (l : Literal) → value_at values l.letter.0 ≡ Some (not l.negated) → Contains (literals_of trail) l
  pub apart : AllPairs (λ e f. e.literal.letter.0 ≢ f.literal.letter.0) trail
  pub known : All (λ e. e.literal.letter.0 < length values) trail

-- the literal is true, or its opposite is
pub record HasValue (trail : List Literal) (l : Literal) (value : Bool) : Type 0 where
  pub when_true : value ≡ true → Contains trail l
  pub when_false : value ≡ false → Contains trail (opposite l)

-- what a read past the end would give
abbrev pub blank_entry : TrailEntry
blank_entry = record { literal = record { letter = record { 0 = 0 }; negated = false }; level = 0; reason = None }

-- the literal at a place of the trail
abbrev pub literal_at : List TrailEntry → ℕ → Literal
literal_at trail place = (slice_index_or trail place blank_entry).literal

-- the level of the entry at a place
abbrev pub place_level : List TrailEntry → ℕ → ℕ
place_level trail p = (slice_index_or trail p blank_entry).level

-- the reason of the entry at a place
abbrev pub place_reason : List TrailEntry → ℕ → Option Hint
place_reason trail p = (slice_index_or trail p blank_entry).reason

-- the place is one of the trail
abbrev pub IsInside : List TrailEntry → ℕ → Type 0
IsInside trail p = p < length trail

-- the place has a decision
pub record IsDecision (trail : List TrailEntry) (place : ℕ) : Type 0 where
  pub within : place < length trail
  pub free : (slice_index_or trail place blank_entry).reason ≡ None
