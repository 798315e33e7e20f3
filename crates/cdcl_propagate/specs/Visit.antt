-- What holds while the clauses that watch a false literal are visited.
use Rattle.std.specs.Prelude.{◌≡◌, ◌≢◌, ℕ, ◌+◌, ◌*◌, ◌<◌, ◌≤◌, ◌⊎◌, ◌++◌, List, Some, None, length, map, All, Contains, slice_index_or, slice_set}
use Rattle.std.specs.List.{swap}
use Rattle.cnf_base.specs.declared.literal.Literal.{Literal}
use Rattle.cnf_base.specs.declared.literal.Hint.{Hint}
use Rattle.cnf_base.specs.declared.literal.Hint.TheVariants.{Clause}
use Rattle.cnf_base.specs.Literal.{opposite}
use Rattle.cnf_base.specs.Step.{named}
use Rattle.cdcl_trail.specs.Trail.{literals_of, IsTrail, literal_at}
use Rattle.cdcl_trail.specs.Entries.{hint_of}
use Rattle.cdcl_trail.specs.declared.assigned.TrailEntry.{TrailEntry}
use Rattle.cdcl_watches.specs.Watching.{IsWatch, clause_of, list_of, WatchValue, blank}
use Rattle.cdcl_watches.specs.Heads.{ArenaValue}
use Rattle.cdcl_watches.specs.Watchers.{ListWalk, walked, row_of}
use Rattle.cdcl_trail.specs.Assigned.{AssignedValue}

-- the two clauses have the same literals
pub record HaveSame (xs ys : List Literal) : Type 0 where
  pub there : All (Contains ys) xs
  pub back : All (Contains xs) ys

-- what a read past the end would give
abbrev pub blank_hint : Hint
blank_hint = Clause 0

-- the names of the watched clauses, as hints
abbrev pub names_of : WatchValue → List Hint
names_of w = map hint_of w.names

-- each clause that is watched is one of the log's, in another order
pub record IsStored (inputs lines clauses : List (List Literal)) (names : List Hint) : Type 0 where
  pub paired : length names ≡ length clauses
  pub from_log : (c : ℕ) → c < length clauses
      → (clause : List Literal) × (named inputs lines (slice_index_or names c blank_hint) ≡ Some clause) × HaveSame clause (clause_of clauses c)

-- the clause has a literal among the true ones
abbrev pub HasTrue : List Literal → List Literal → Type 0
HasTrue true_ones clause = (l : Literal) × Contains clause l × Contains true_ones l

-- where a clause watches a literal that is false from a place below `propagated` on, it has a true one
abbrev pub IsGuarded : List (List Literal) → List TrailEntry → ℕ → Type 0
IsGuarded clauses trail propagated = (c k : ℕ) (a : Literal) → c < length clauses → IsWatch (clause_of clauses c) a
    → k < propagated → literal_at trail k ≡ opposite a → HasTrue (literals_of trail) (clause_of clauses c)

-- the literal that the entry at a place makes false
abbrev pub false_at : List TrailEntry → ℕ → Literal
false_at trail k = opposite (literal_at trail k)

-- the clause at a place of the literal's list
abbrev pub watcher_at : WatchValue → Literal → ℕ → List Literal
watcher_at w l i = clause_of w.clauses (slice_index_or (list_of w.lists l) i 0)

-- the list of the literal that became false at the place k has been visited up to i: the clauses there have true literals
pub record IsVisiting (inputs lines : List (List Literal)) (k i : ℕ) (a : AssignedValue) (w : WatchValue) : Type 0 where
  pub is_trail : IsTrail inputs lines a.trail
  pub stored : IsStored inputs lines w.clauses (names_of w)
  pub guarded : IsGuarded w.clauses a.trail k
  pub within : k < length a.trail
  pub sized : length w.lists ≡ 2 * length a.values
  pub done : (j : ℕ) → j < i → j < length (list_of w.lists (false_at a.trail k)) → HasTrue (literals_of a.trail) (watcher_at w (false_at a.trail k) j)

-- how many clauses watch the literal that became false at the place k
abbrev pub list_length : List TrailEntry → WatchValue → ℕ → ℕ
list_length trail w k = length (list_of w.lists (false_at trail k))

-- clauses that are watched by these lists
abbrev pub watched_by : ArenaValue → List (List ℕ) → WatchValue
watched_by arena lists = record { clauses = arena.clauses; lists = lists; names = arena.names }

-- the walk went on by one watcher of the list, whose length is the same, and all those that it kept are done
pub record IsPassed (inputs lines : List (List Literal)) (k : ℕ) (a : AssignedValue) (old new : ListWalk) : Type 0 where
  pub visiting : IsVisiting inputs lines k new.at.kept a (walked new)
  pub on : new.at.next ≡ old.at.next + 1
  pub same : length (row_of new) ≡ length (row_of old)

-- entries that have reasons were put behind the trail
pub record IsGrown (old new : List TrailEntry) : Type 0 where
  pub more : List TrailEntry
  pub trail : new ≡ old ++ more
  pub forced : All (λ e. e.reason ≢ None) more

-- the literals at the places from i to n are false
abbrev pub AreFalseFrom : List TrailEntry → List Literal → ℕ → ℕ → Type 0
AreFalseFrom trail clause i n = (j : ℕ) → i ≤ j → j < n → Contains (literals_of trail) (opposite (slice_index_or clause j blank))

-- the place is behind the first two, and its literal is not false
pub record IsReplacement (trail : List TrailEntry) (clause : List Literal) (j : ℕ) : Type 0 where
  pub behind : 2 ≤ j
  pub within : j < length clause
  pub not_false : ¬ Contains (literals_of trail) (opposite (slice_index_or clause j blank))

-- the clause has the literal second, and nothing else changed but the order of its first two
pub record IsFaced (old new : WatchValue) (c : ℕ) (l : Literal) : Type 0 where
  pub long : 2 ≤ length (clause_of new.clauses c)
  pub second : l ≡ slice_index_or (clause_of new.clauses c) 1 l
  pub same : (new ≡ old) ⊎ ((new.clauses ≡ slice_set old.clauses c (swap (clause_of old.clauses c) 0 1)) × (new.lists ≡ old.lists) × (new.names ≡ old.names))

-- the watch rule holds below `propagated`
pub record IsReady (inputs lines : List (List Literal)) (propagated : ℕ) (a : AssignedValue) (w : WatchValue) : Type 0 where
  pub is_trail : IsTrail inputs lines a.trail
  pub stored : IsStored inputs lines w.clauses (names_of w)
  pub guarded : IsGuarded w.clauses a.trail propagated
  pub within : propagated ≤ length a.trail
  pub sized : length w.lists ≡ 2 * length a.values
