-- What a learnt clause, a way back and a decision make of a state, and what explains a false literal.
use Rattle.std.specs.Prelude.{◌≡◌, ◌≢◌, ℕ, ◌<◌, ◌≤◌, ◌⊎◌, ◌++◌, ◌∷◌, [], take, List, length, All, None, slice_index_or}
use Rattle.cnf_base.specs.declared.literal.Literal.{Literal}
use Rattle.cnf_base.specs.Literal.{opposite}
use Rattle.clause_log.specs.LogValue.{with_line}
use Rattle.cdcl_state.specs.StateValue.{StateValue, with_trail}
use Rattle.cdcl_trail.specs.declared.assigned.TrailEntry.{TrailEntry}
use Rattle.cdcl_analyze.specs.declared.analyze.Learnt.{Learnt}
use Rattle.cdcl_trail.specs.Trail.{blank_entry, literal_at, IsDecision, place_level}
use Rattle.cdcl_analyze.specs.Learnt.{IsLearnt}
use Rattle.cdcl_analyze.specs.Analysis.{refuted_at}
use Rattle.cdcl_activity.specs.Choices.{ChoicesValue, IsOffered}

-- the level to go back to: that of the second literal, or 0
pub record IsTarget (trail : List TrailEntry) (places : List ℕ) (b : ℕ) : Type 0 where
  pub lone : length places ≤ 1 → b ≡ 0
  pub second : 1 < length places → b ≡ place_level trail (slice_index_or places 1 0)

-- only the first place is of the highest level, and that is not 0
pub record IsAsserting (trail : List TrailEntry) (places : List ℕ) : Type 0 where
  pub some : 0 < length places
  pub lone : length places ≤ 1 → 0 < place_level trail (slice_index_or places 0 0)
  pub second : 1 < length places → place_level trail (slice_index_or places 1 0) < place_level trail (slice_index_or places 0 0)

-- a decision at a place of the old trail, and all behind it, gave way to an entry that is forced
pub record IsTurn (old new : StateValue) : Type 0 where
  pub place : ℕ
  pub entry : TrailEntry
  pub decision : IsDecision old.trail place
  pub forced : entry.reason ≢ None
  pub after : new ≡ with_trail old (take place old.trail ++ entry ∷ [])

-- letters are as before, and the log is, or it has the learnt clause behind its lines
pub record IsUnturned (old new : StateValue) (learnt : Learnt) : Type 0 where
  pub letters : new.letters ≡ old.letters
  pub log : (new.log ≡ old.log) ⊎ (new.log ≡ with_line old.log learnt.clause.items learnt.hints.items)

-- the new trail is a front of the old one
pub record IsFront (old new : StateValue) : Type 0 where
  pub count : ℕ
  pub after : new ≡ with_trail old (take count old.trail)

-- x is the letter of an entry from one place up to another, and one of those that there are
pub record IsReleased (trail : List TrailEntry) (from to : ℕ) (choices : ChoicesValue) (x : ℕ) : Type 0 where
  pub place : ℕ
  pub on : from ≤ place
  pub below : place < to
  pub offered : IsOffered choices x (literal_at trail place).letter.0

-- a decision was put behind the trail
pub record IsDecided (old new : StateValue) (literal : Literal) : Type 0 where
  pub level : ℕ
  pub after : new ≡ with_trail old (old.trail ++ record { literal = literal; level = level; reason = None } ∷ [])

-- the literal is that of the last decision
pub record IsTop (trail : List TrailEntry) (literal : Literal) : Type 0 where
  pub place : ℕ
  pub decision : IsDecision trail place
  pub is : literal_at trail place ≡ literal
  pub last : (k : ℕ) → place < k → k < length trail → (slice_index_or trail k blank_entry).reason ≢ None

-- the clause explains by decisions that the literal is false: with it the place of its opposite has the decision that it is true
pub record IsRefuted (s : StateValue) (literal : Literal) (learnt : Learnt) : Type 0 where
  pub place : ℕ
  pub within : place < length s.trail
  pub is : literal_at s.trail place ≡ opposite literal
  pub explains : IsLearnt s.log (refuted_at s.trail place) learnt
  pub decisions : All (IsDecision (refuted_at s.trail place)) learnt.places.items
