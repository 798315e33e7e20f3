-- Clauses and the lists of those that watch a literal.
use Rattle.std.specs.Prelude.{◌≡◌, ◌≢◌, ℕ, ◌+◌, ◌*◌, ◌/◌, ◌%◌, nat_eq, ◌<◌, ◌≤◌, ◌⊎◌, false, List, [], ◌∷◌, ◌++◌, length, All, AllPairs, Contains}
use Rattle.std.specs.Prelude.{slice_index_or, slice_set, if◌then◌else◌}
use Rattle.cnf_base.specs.declared.literal.Literal.{Literal}

-- the number of a literal
abbrev pub code : Literal → ℕ
code l = 2 * l.letter.0 + (if l.negated then 1 else 0)

-- the literal of a number: its letter is half of it, and it is negated where the number is odd
abbrev pub literal_of : ℕ → Literal
literal_of n = record { letter = record { 0 = n / 2 }; negated = nat_eq (n % 2) 1 }

-- the list of a literal
abbrev pub list_of : List (List ℕ) → Literal → List ℕ
list_of lists l = slice_index_or lists (code l) []

-- the clause of an index
abbrev pub clause_of : List (List Literal) → ℕ → List Literal
clause_of clauses c = slice_index_or clauses c []

-- a and b are the first two literals, in one order or the other
pub record AreFirst (clause : List Literal) (a b : Literal) : Type 0 where
  pub long : 2 ≤ length clause
  pub are : ((slice_index_or clause 0 a ≡ a) × (slice_index_or clause 1 b ≡ b)) ⊎ ((slice_index_or clause 1 a ≡ a) × (slice_index_or clause 0 b ≡ b))

-- the literal is one of the first two
abbrev pub IsWatch : List Literal → Literal → Type 0
IsWatch clause a = (b : Literal) × AreFirst clause a b

-- each literal of a clause stands there once
abbrev pub AreApart : {X : Type 0} → List X → Type 0
AreApart {X} xs = AllPairs (λ (a : X) b. a ≢ b) xs

-- each clause of at least two literals stands once in the lists of its first two, and in no other
pub record IsWatching (clauses : List (List Literal)) (lists : List (List ℕ)) : Type 0 where
  pub apart : (c : ℕ) → c < length clauses → AreApart (clause_of clauses c)
  pub fits : (c : ℕ) → c < length clauses → All (λ l. code l < length lists) (clause_of clauses c)
  pub watched : (c : ℕ) (l : Literal) → c < length clauses → IsWatch (clause_of clauses c) l → Contains (list_of lists l) c
  pub only : (c : ℕ) (l : Literal) → Contains (list_of lists l) c → (c < length clauses) × IsWatch (clause_of clauses c) l
  pub once : (l : Literal) → AreApart (list_of lists l)

-- clauses, lists, and the names of the clauses
pub record WatchValue : Type 0 where
  pub clauses : List (List Literal)
  pub lists : List (List ℕ)
  pub names : List ℕ

-- what a read past the end would give
abbrev pub blank : Literal
blank = record { letter = record { 0 = 0 }; negated = false }

-- the clause is in one list more
abbrev pub with_watch : List (List ℕ) → Literal → ℕ → List (List ℕ)
with_watch lists l c = slice_set lists (code l) (list_of lists l ++ c ∷ [])

abbrev pub with_lists : WatchValue → List (List ℕ) → WatchValue
with_lists w lists = record { clauses = w.clauses; lists = lists; names = w.names }

-- the clause stands behind the others by this name, and in the lists of its first two literals
abbrev pub with_clause : WatchValue → List Literal → ℕ → WatchValue
with_clause w clause name = record {
  clauses = w.clauses ++ clause ∷ [];
  lists = with_watch (with_watch w.lists (slice_index_or clause 0 blank) (length w.clauses)) (slice_index_or clause 1 blank) (length w.clauses);
  names = w.names ++ name ∷ [];
}

-- two lists that are empty were put behind the others
pub record IsWidened (before now : WatchValue) : Type 0 where
  pub watching : IsWatching before.clauses before.lists
  pub is : now ≡ with_lists before (before.lists ++ [] ∷ [] ∷ [])
