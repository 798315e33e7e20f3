-- The clauses of a log that are gathered anew or come from the log: which are put among the watched ones, and which were met.
use Rattle.std.specs.Prelude.{◌≡◌, ℕ, ◌<◌, ◌≤◌, ◌⊎◌, Bool, true, false, List, length, map, All, Some, slice_index_or}
use Rattle.cnf_base.specs.declared.literal.Literal.{Literal}
use Rattle.cnf_base.specs.declared.literal.Hint.{Hint}
use Rattle.cnf_base.specs.declared.literal.Hint.TheVariants.{Clause, Line}
use Rattle.cnf_base.specs.Step.{named}
use Rattle.clause_log.specs.LogValue.{LogValue}
use Rattle.cdcl_watches.specs.Watching.{WatchValue, AreApart, clause_of, code}
use Rattle.cdcl_trail.specs.Entries.{hint_of}
use Rattle.cdcl_propagate.specs.Visit.{HaveSame, IsStored, names_of, blank_hint}
use Rattle.cdcl_propagate.specs.Units.{IsOne}
use Rattle.cdcl_state.specs.State.{IsListed, IsNamed, AreLong}

-- the literal's letter has a mark, and the literal a list
pub record HasRoom (marked lists : ℕ) (l : Literal) : Type 0 where
  pub mark : l.letter.0 < marked
  pub list : code l < lists

-- the clause, each of its literals once, came behind the watched ones, or it has fewer than two and nothing changed
pub record IsPut (old new : WatchValue) (clause : List Literal) (hint : Hint) : Type 0 where
  pub stored : List Literal
  pub same : HaveSame clause stored
  pub apart : AreApart stored
  pub is : ((length stored < 2) × (new ≡ old)) ⊎ ((2 ≤ length stored) × IsNamed old new stored hint)

-- the name stands at one of the first places of the list
abbrev pub IsListedBelow : List Hint → ℕ → Hint → Type 0
IsListedBelow names count hint = (c : ℕ) × (c < count) × (slice_index_or names c blank_hint ≡ hint)

-- the clause may be put among those that this number of lists watch
pub record MayCome (lists : ℕ) (clause : List Literal) : Type 0 where
  pub long : 2 ≤ length clause
  pub apart : AreApart clause
  pub fits : All (λ l. code l < lists) clause

-- each watched clause is one of the old ones, as it stands there and by its name; among them are the inputs of the first `count` old ones
pub record IsCopied (clauses : List (List Literal)) (names : List ℕ) (count : ℕ) (w : WatchValue) : Type 0 where
  pub paired : length w.names ≡ length w.clauses
  pub from_old : (c : ℕ) → c < length w.clauses
      → (d : ℕ) × (d < length clauses) × (clause_of w.clauses c ≡ clause_of clauses d) × (slice_index_or w.names c 0 ≡ slice_index_or names d 0)
  pub inputs : (n : ℕ) → IsListedBelow (map hint_of names) count (Clause n) → IsListed (names_of w) (Clause n)

-- each line that is marked stands among the names
abbrev pub AreThere : List Hint → List Bool → Type 0
AreThere names there = (n : ℕ) → slice_index_or there n false ≡ true → IsListed names (Line n)

-- an input that stands among the names, or a line that is marked or one of the first `lines`
abbrev pub IsMet : List Hint → List Bool → ℕ → Hint → Type 0
IsMet names there lines (Clause n) = IsListed names (Clause n)
IsMet names there lines (Line n) = (slice_index_or there n false ≡ true) ⊎ (n ≤ lines)

-- an input that stands among the names, or, where no line is left out, a line
abbrev pub IsCarried : Bool → List Hint → Hint → Type 0
IsCarried all_lines names (Clause n) = IsListed names (Clause n)
IsCarried all_lines names (Line n) = all_lines ≡ true

-- the watched clauses are the log's, and those that were met are among them, but for clauses of one literal or none
pub record IsGathered (met : Hint → Type 0) (log : LogValue) (w : WatchValue) : Type 0 where
  pub stored : IsStored log.inputs log.lines w.clauses (names_of w)
  pub long : AreLong log.inputs log.lines (names_of w)
  pub held : (hint : Hint) (clause : List Literal) → met hint → named log.inputs log.lines hint ≡ Some clause → IsListed (names_of w) hint ⊎ IsOne clause
