-- Watchers: where a clause stands, and a literal of it.
use Rattle.std.specs.Prelude.{◌≡◌, ℕ, ◌<◌, ◌≤◌, List, [], ◌∷◌, ◌++◌, length, map, All, Contains, slice_index_or, slice_set}
use Rattle.std.specs.List.{remove_range}
use Rattle.cnf_base.specs.declared.literal.Literal.{Literal}
use Rattle.cdcl_watches.specs.declared.walk.Walk.{Walk}
use Rattle.cdcl_watches.specs.declared.watcher.Watcher.{Watcher}
use Rattle.cdcl_watches.specs.Watching.{code, literal_of, clause_of, IsWatching, WatchValue}
use Rattle.cdcl_watches.specs.Heads.{number_of, ArenaValue}

-- what a read past the end would give
abbrev pub nobody : Watcher
nobody = record { head = 0; blocker = record { 0 = 0 } }

-- the literal that a watcher carries
abbrev pub blocker_of : Watcher → Literal
blocker_of w = literal_of w.blocker.0

-- the number of a watcher's clause
abbrev pub clause_number : List ℕ → Watcher → ℕ
clause_number heads w = number_of heads w.head

-- lists of watchers, as lists of the numbers of their clauses
abbrev pub numbers : List ℕ → List (List Watcher) → List (List ℕ)
numbers heads lists = map (λ ws. map (clause_number heads) ws) lists

-- the watcher has the head of a clause, and its blocker is a literal of that clause
pub record IsBlocking (heads : List ℕ) (clauses : List (List Literal)) (w : Watcher) : Type 0 where
  pub stands : Contains heads w.head
  pub blocks : Contains (clause_of clauses (clause_number heads w)) (blocker_of w)

-- each watcher's is
abbrev pub AreBlockers : List ℕ → List (List Literal) → List (List Watcher) → Type 0
AreBlockers heads clauses lists = All (λ ws. All (IsBlocking heads clauses) ws) lists

-- the clauses are watched by the lists, and each blocker is a literal of its clause
pub record AreWatchers (heads : List ℕ) (clauses : List (List Literal)) (lists : List (List Watcher)) : Type 0 where
  pub none : clause_number heads nobody ≡ 0
  pub watching : IsWatching clauses (numbers heads lists)
  pub blockers : AreBlockers heads clauses lists

-- watchers of the head were put behind the lists of two literals, each with the other literal for its blocker
pub record IsLinked (before now : List (List Watcher)) (head : ℕ) (a b : Literal) : Type 0 where
  pub one : Watcher
  pub two : Watcher
  pub one_head : one.head ≡ head
  pub two_head : two.head ≡ head
  pub one_blocker : blocker_of one ≡ b
  pub two_blocker : blocker_of two ≡ a
  pub half : List (List Watcher)
  pub first : half ≡ slice_set before (code a) (slice_index_or before (code a) [] ++ one ∷ [])
  pub second : now ≡ slice_set half (code b) (slice_index_or half (code b) [] ++ two ∷ [])

-- the lists, one of them without its places from kept to next
abbrev pub without : List (List Watcher) → ℕ → ℕ → ℕ → List (List Watcher)
without lists k kept next = slice_set lists k (remove_range (slice_index_or lists k []) kept next)

-- a walk along the list of a literal: the clauses, the lists, the literal, and where the walk stands
pub record ListWalk : Type 0 where
  pub arena : ArenaValue
  pub lists : List (List Watcher)
  pub literal : Literal
  pub at : Walk

abbrev pub walk_in : ArenaValue → List (List Watcher) → Literal → Walk → ListWalk
walk_in arena lists literal walk = record { arena = arena; lists = lists; literal = literal; at = walk }

-- the list that it goes along
abbrev pub row_of : ListWalk → List Watcher
row_of w = slice_index_or w.lists (code w.literal) []

-- the next watcher there
abbrev pub next_of : ListWalk → Watcher
next_of w = slice_index_or (row_of w) w.at.next nobody

-- the lists, its own without the places that count for nothing
abbrev pub closed : ListWalk → List (List Watcher)
closed w = without w.lists (code w.literal) w.at.kept w.at.next

-- it stands in its list: the watchers before kept stay there, those from next on are still to come, and what is between counts for nothing
pub record IsWalked (w : ListWalk) : Type 0 where
  pub known : code w.literal < length w.lists
  pub order : w.at.kept ≤ w.at.next
  pub inside : w.at.next ≤ length (row_of w)
  pub watchers : AreWatchers w.arena.heads w.arena.clauses (closed w)

-- the clauses, the lists and the names as they are where the walk stands
abbrev pub walked : ListWalk → WatchValue
walked w = record { clauses = w.arena.clauses; lists = numbers w.arena.heads (closed w); names = w.arena.names }
