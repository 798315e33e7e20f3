-- What holds of a state: the log is watched, but for its clauses of one literal or none, and for forgotten lines.
use Rattle.std.specs.Prelude.{◌≡◌, ℕ, ◌^◌, ◌<◌, ◌≤◌, ◌⊎◌, Bool, List, length, take, Some, None, All, AllPairs, Contains, slice_index_or, ◌≢◌}
use Rattle.cnf_base.specs.declared.literal.Literal.{Literal}
use Rattle.cnf_base.specs.declared.literal.Hint.{Hint}
use Rattle.cnf_base.specs.Step.{named}
use Rattle.cnf_base.specs.Known.{IsKnown, AreKnown}
use Rattle.clause_log.specs.LogValue.{LogValue}
use Rattle.cdcl_trail.specs.Trail.{literals_of, literal_at}
use Rattle.cdcl_trail.specs.Entries.{hint_of}
use Rattle.cdcl_watches.specs.Watching.{WatchValue, with_clause, blank}
use Rattle.cdcl_trail.specs.Assigned.{AssignedValue}
use Rattle.cdcl_propagate.specs.Lasting.{IsLasting}
use Rattle.cdcl_propagate.specs.Visit.{IsReady, blank_hint, names_of}
use Rattle.cdcl_trail.specs.declared.assigned.TrailEntry.{TrailEntry}
use Rattle.cnf_base.specs.Literal.{opposite}
use Rattle.cdcl_propagate.specs.Units.{IsOne, AreShort, AreFirm}
use Rattle.cdcl_state.specs.StateValue.{IsHeeded}
use Rattle.cdcl_state.specs.declared.state.State.TheInside.{Inside}

-- no letter stands in the clause twice
abbrev pub HasLettersOnce : List Literal → Type 0
HasLettersOnce clause = AllPairs (λ a b. a.letter.0 ≢ b.letter.0) clause

-- the name stands at a place of the list
abbrev pub IsListed : List Hint → Hint → Type 0
IsListed names hint = (c : ℕ) × (c < length names) × (slice_index_or names c blank_hint ≡ hint)

-- each clause of the log that is always heeded is a watched one or a short one
abbrev pub AreAll : Bool → List (List Literal) → List (List Literal) → List Hint → List Hint → Type 0
AreAll all_lines inputs lines names units =
    (hint : Hint) (clause : List Literal) → IsHeeded all_lines hint → named inputs lines hint ≡ Some clause → IsListed names hint ⊎ IsListed units hint

-- no watched clause has one literal alone, or none
abbrev pub AreLong : List (List Literal) → List (List Literal) → List Hint → Type 0
AreLong inputs lines names =
    (c : ℕ) (clause : List Literal) → c < length names → named inputs lines (slice_index_or names c blank_hint) ≡ Some clause → ¬ IsOne clause

-- each clause of one literal or none is a short one
abbrev pub AreOnes : List (List Literal) → List (List Literal) → List Hint → Type 0
AreOnes inputs lines units = (hint : Hint) (clause : List Literal) → named inputs lines hint ≡ Some clause → IsOne clause → IsListed units hint

-- a decision's letter is known
abbrev pub AreKnownDecisions : ℕ → List TrailEntry → Type 0
AreKnownDecisions letters trail = All (λ e. e.reason ≡ None → IsKnown letters e.literal) trail

-- no entry below the place makes one of the first two literals false
abbrev pub IsUnwatched : List TrailEntry → List Literal → ℕ → Type 0
IsUnwatched trail clause place =
    (k : ℕ) → k < place → (literal_at trail k ≢ opposite (slice_index_or clause 0 blank)) × (literal_at trail k ≢ opposite (slice_index_or clause 1 blank))

-- no letter stands in the clause twice, and neither of its first two literals is false
pub record IsWatchable (trail : List TrailEntry) (clause : List Literal) : Type 0 where
  pub once : HasLettersOnce clause
  pub first : 0 < length clause → ¬ Contains (literals_of trail) (opposite (slice_index_or clause 0 blank))
  pub second : 1 < length clause → ¬ Contains (literals_of trail) (opposite (slice_index_or clause 1 blank))

-- the clause stands behind the watched ones by a name that says the hint
pub record IsNamed (old new : WatchValue) (clause : List Literal) (hint : Hint) : Type 0 where
  pub name : ℕ
  pub says : hint_of name ≡ hint
  pub is : new ≡ with_clause old clause name

-- the marks went back to where neither of the first two literals is false
pub record IsRewound (trail : List TrailEntry) (clause : List Literal) (old_propagated old_lasting propagated lasting : ℕ) : Type 0 where
  pub propagated_falls : propagated ≤ old_propagated
  pub lasting_falls : lasting ≤ old_lasting
  pub low : lasting ≤ propagated
  pub free : IsUnwatched trail clause propagated

-- the parts of a state that bear on what it has learnt and assigned, each as its field is seen
pub record Parts : Type 0 where
  pub letters : ℕ
  pub assigned : AssignedValue
  pub watches : WatchValue
  pub units : List Hint
  pub log : LogValue
  pub propagated : ℕ
  pub lasting : ℕ
  pub units_done : ℕ
  pub units_trail : ℕ
  -- the number of letters that have marks
  pub marked : ℕ
  pub all_lines : Bool

abbrev pub parts : Inside → Parts
parts s = record {
  letters = s.letters;
  assigned = s.assigned;
  watches = s.watches;
  units = s.units.items;
  log = s.log;
  propagated = s.propagated;
  lasting = s.lasting;
  units_done = s.units_done;
  units_trail = s.units_trail;
  marked = length s.marks.stamps;
  all_lines = s.all_lines;
}

-- the watch rule holds of the trail, the log's clauses are watched or short, and each letter has room
pub record IsState (s : Parts) : Type 0 where
  pub ready : IsReady s.log.inputs s.log.lines s.propagated s.assigned s.watches
  pub low : s.lasting ≤ s.propagated
  pub is_lasting : IsLasting s.watches.clauses s.assigned.trail s.lasting
  pub all : AreAll s.all_lines s.log.inputs s.log.lines (names_of s.watches) s.units
  pub long : AreLong s.log.inputs s.log.lines (names_of s.watches)
  pub short : AreShort s.log.inputs s.log.lines s.units
  pub ones : AreOnes s.log.inputs s.log.lines s.units
  pub units_done_in : s.units_done ≤ length s.units
  pub units_trail_in : s.units_trail ≤ length s.assigned.trail
  pub are_firm : AreFirm s.log.inputs s.log.lines s.units s.units_done (literals_of (take s.units_trail s.assigned.trail))
  pub known_inputs : AreKnown s.letters s.log.inputs
  pub known_lines : AreKnown s.letters s.log.lines
  pub decided : AreKnownDecisions s.letters s.assigned.trail
  pub room : (x : ℕ) → 1 ≤ x → x ≤ s.letters → x < length s.assigned.values
  pub few : length s.assigned.values ≤ 2 ^ 32
  pub size : length s.assigned.values ≤ s.marked
