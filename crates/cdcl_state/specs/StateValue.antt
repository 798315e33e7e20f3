-- What a caller sees of a state, and how states before and after a call compare.
use Rattle.std.specs.Prelude.{◌↔◌, ◌≡◌, ◌≢◌, ℕ, ◌+◌, ◌<◌, ◌≤◌, ◌⊎◌, ⊤, Bool, true, false, List, length, take, ◌++◌, All, Contains, None, slice_index_or}
use Rattle.cnf_base.specs.declared.literal.Literal.{Literal}
use Rattle.cnf_base.specs.declared.literal.Hint.{Hint}
use Rattle.cnf_base.specs.declared.literal.Hint.TheVariants.{Clause, Line}
use Rattle.cnf_base.specs.Literal.{opposite}
use Rattle.clause_log.specs.LogValue.{LogValue}
use Rattle.cdcl_trail.specs.declared.assigned.TrailEntry.{TrailEntry}
use Rattle.cdcl_trail.specs.Trail.{literals_of, IsReason, IsConflict, IsUnset, StandsAt}

-- the letters from 1 to `letters` are known; the trail's literals are true, in order; the log's clauses hold; and
-- whether each line is heeded, or some are forgotten
pub record StateValue : Type 0 where
  pub letters : ℕ
  pub trail : List TrailEntry
  pub log : LogValue
  pub all_lines : Bool

abbrev pub with_trail : StateValue → List TrailEntry → StateValue
with_trail s trail = record { letters = s.letters; trail = trail; log = s.log; all_lines = s.all_lines }

abbrev pub with_letters : StateValue → ℕ → StateValue
with_letters s letters = record { letters = letters; trail = s.trail; log = s.log; all_lines = s.all_lines }

abbrev pub with_log : StateValue → LogValue → StateValue
with_log s log = record { letters = s.letters; trail = s.trail; log = log; all_lines = s.all_lines }

abbrev pub with_all_lines : StateValue → Bool → StateValue
with_all_lines s all_lines = record { letters = s.letters; trail = s.trail; log = s.log; all_lines = all_lines }

-- the state of these letters, trail and log
abbrev pub state_of : ℕ → List TrailEntry → LogValue → Bool → StateValue
state_of letters trail log all_lines = record { letters = letters; trail = trail; log = log; all_lines = all_lines }

-- the clause is one that is always heeded: an input, or a line where no line is forgotten
abbrev pub IsHeeded : Bool → Hint → Type 0
IsHeeded all_lines (Clause n) = ⊤
IsHeeded all_lines (Line n) = all_lines ≡ true

-- no clause that is always heeded is false, and none has one literal without a value while all its others are false
abbrev pub IsSettled : StateValue → Type 0
IsSettled s = (hint : Hint) → IsHeeded s.all_lines hint
    → (¬ IsConflict s.log.inputs s.log.lines (literals_of s.trail) hint)
    × ((u : Literal) → IsReason s.log.inputs s.log.lines (literals_of s.trail) u hint → ¬ IsUnset (literals_of s.trail) u)

-- the entry may be put behind the trail
pub record MayStand (s : StateValue) (e : TrailEntry) : Type 0 where
  pub stands : StandsAt s.log.inputs s.log.lines s.trail e
  pub unset : IsUnset (literals_of s.trail) e.literal

-- entries that have reasons were put behind the trail
pub record Propagated (old new : StateValue) : Type 0 where
  pub letters : new.letters ≡ old.letters
  pub log : new.log ≡ old.log
  pub all_lines : new.all_lines ≡ old.all_lines
  pub more : List TrailEntry
  pub trail : new.trail ≡ old.trail ++ more
  pub forced : All (λ e. e.reason ≢ None) more

-- the new trail is the front of the old one whose entries have at most this level
pub record IsBack (old new : StateValue) (level : ℕ) : Type 0 where
  pub front : new ≡ with_trail old (take (length new.trail) old.trail)
  pub short : length new.trail ≤ length old.trail
  pub low : All (λ e. e.level ≤ level) new.trail
  pub high : (d : TrailEntry) → length new.trail < length old.trail → level < (slice_index_or old.trail (length new.trail) d).level

-- the literal is true, or its opposite is
abbrev pub IsSet : List TrailEntry → Literal → Type 0
IsSet trail l = Contains (literals_of trail) l ⊎ Contains (literals_of trail) (opposite l)

-- each literal of an input is true, or its opposite is
abbrev pub AreSet : StateValue → Type 0
AreSet s = All (All (IsSet s.trail)) s.log.inputs

-- the literal of the letter that is not negated
abbrev pub positive : ℕ → Literal
positive letter = record { letter = record { 0 = letter }; negated = false }

-- a known letter is true exactly where its literal is among the true ones
pub record IsModel (s : StateValue) (model : List Bool) : Type 0 where
  pub size : length model ≡ s.letters + 1
  pub told : (x : ℕ) → 1 ≤ x → x ≤ s.letters → (slice_index_or model x false ≡ true) ↔ Contains (literals_of s.trail) (positive x)
