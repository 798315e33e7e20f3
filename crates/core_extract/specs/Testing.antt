-- How the tests of a core go over the nodes of a table: occurrences by their places, marks for those that are replaced, and groups of tests.
use Rattle.std.specs.Prelude.{◌≡◌, ℕ, ◌+◌, ◌<◌, ◌≤◌, Bool, false, List, length, slice_index_or, ⊤, Option, Some, None}
use Rattle.ltl_syntax.specs.Formula.{Formula, HasNoFresh, nodes_in}
use Rattle.ltl_syntax.specs.Table.{IsTable, tree_at}
use Rattle.ltl_syntax.specs.Flat.{order_at}
use Rattle.ltl_syntax.specs.Replacement.{Places, AreSame, IsKept, IsClear, AreApart, size_at, added, rep}
use Rattle.core_extract.specs.declared.task.Task.{Task}
use Rattle.core_extract.specs.declared.testing.Outcome.{Outcome}
use Rattle.core_extract.specs.declared.testing.Outcome.TheVariants as outcomes
use Rattle.core_extract.specs.declared.passing.Advance.{Advance}
use Rattle.core_extract.specs.declared.passing.Advance.TheVariants as advances
use Rattle.core_extract.specs.Core.{Test, tableau, IsTaken, IsLeft, IsPass}

-- the formula whose core is asked for
abbrev pub formula_of : Task → Formula
formula_of task = tree_at task.table.now task.root

-- and its tests
abbrev pub test_of : Task → Test
test_of task = tableau task.kind task.asked

-- the task has a formula without fresh letters, its nodes in the order of their places, and how many nodes stand under each, with itself
pub record IsTask (task : Task) : Type 0 where
  pub table : IsTable task.table.now.nodes task.table.now.names
  pub root : task.root < length task.table.now.nodes
  pub given : HasNoFresh (formula_of task)
  pub order : task.order.items ≡ order_at task.table.now task.root
  pub long : length task.sizes.items ≡ length task.order.items
  pub sizes : (n : ℕ) → n < length task.order.items → slice_index_or task.sizes.items n 0 ≡ size_at (formula_of task) n
  pub few : length task.order.items ≤ 16384
  pub asked : task.asked ≤ 1000

-- the marked places
abbrev pub marked : List Bool → Places
marked marks n = slice_index_or marks n false

-- the marks are those of a set of occurrences of which none is under another
pub record AreMarks (task : Task) (marks : List Bool) : Type 0 where
  pub long : length marks ≡ length task.order.items
  pub apart : AreApart (formula_of task) (marked marks)

-- a test tells what it found, or that memory ran out
abbrev pub IsTold : Test → Formula → Outcome → Type 0
IsTold T g outcomes.Closed = T.Closed g
IsTold T g outcomes.Open = T.Open g
IsTold T g outcomes.NoMemory = ⊤

-- the occurrence is tested
abbrev pub IsTested : Task → Places → ℕ → Outcome → Type 0
IsTested task P n outcome = IsTold (test_of task) (rep (formula_of task) (added (formula_of task) P n)) outcome

-- a group of kept occurrences, which are tested side by side
pub record IsGroup (task : Task) (marks : List Bool) (places : List ℕ) : Type 0 where
  pub is_task : IsTask task
  pub are_marks : AreMarks task marks
  pub few : length places ≤ 16
  pub kept : (i : ℕ) → i < length places → IsKept (formula_of task) (marked marks) (slice_index_or places i 0)

-- each occurrence of a group is tested
pub record AreTested (task : Task) (marks : List Bool) (places : List ℕ) (found : List Outcome) : Type 0 where
  pub long : length found ≡ length places
  pub each : (i : ℕ) (d : Outcome) → i < length places → IsTested task (marked marks) (slice_index_or places i 0) (slice_index_or found i d)

-- no occurrence of these places can be taken
abbrev pub AreLeft : Task → Places → ℕ → ℕ → Type 0
AreLeft task P at stop = (k : ℕ) → at ≤ k → k < stop → IsLeft (test_of task) (formula_of task) P k

-- these are the kept occurrences from a place up to before another, in their order
pub record AreNext (f : Formula) (P : Places) (at stop : ℕ) (places : List ℕ) : Type 0 where
  pub each : (i : ℕ) → i < length places → (at ≤ slice_index_or places i 0) × (slice_index_or places i 0 < stop) × IsKept f P (slice_index_or places i 0)
  pub all : (k : ℕ) → at ≤ k → k < stop → IsKept f P k → (i : ℕ) × (i < length places) × (slice_index_or places i 0 ≡ k)
  pub ascending : (i j : ℕ) → i < j → j < length places → slice_index_or places i 0 < slice_index_or places j 0

-- where the first of the outcomes is that is Closed; those before it are Open
abbrev pub IsFirstClosed : List Outcome → Option ℕ → Type 0
IsFirstClosed found None = (i : ℕ) → i < length found → slice_index_or found i outcomes.NoMemory ≡ outcomes.Open
IsFirstClosed found (Some n) = (n < length found) × (slice_index_or found n outcomes.NoMemory ≡ outcomes.Closed)
    × ((i : ℕ) → i < n → slice_index_or found i outcomes.NoMemory ≡ outcomes.Open)

-- a group of tests leaves all occurrences up to a place, or it takes one and goes on behind what is under it
abbrev pub IsStep : Task → Places → ℕ → Advance → Places → Type 0
IsStep task P at (advances.Left next) Q =
    (at < next) × (next ≤ nodes_in (formula_of task)) × AreSame P Q × AreLeft task P at next × IsClear (formula_of task) P next
IsStep task P at (advances.Taken next) Q = (place : ℕ) × (at ≤ place) × AreLeft task P at place × IsTaken (test_of task) (formula_of task) P place
    × (next ≡ place + size_at (formula_of task) place) × AreSame Q (added (formula_of task) P place)

-- no occurrence from a place on can be taken
abbrev pub IsSettled : Task → Places → ℕ → Type 0
IsSettled task P from = (k : ℕ) → from ≤ k → IsLeft (test_of task) (formula_of task) P k

-- a pass that changes nothing, or one that changes something, with a place from which on nothing more can be taken
abbrev pub IsPassed : Task → Places → Option ℕ → Places → Type 0
IsPassed task P None Q = AreSame P Q × IsPass (test_of task) (formula_of task) P P
IsPassed task P (Some from) Q = IsPass (test_of task) (formula_of task) P Q × (AreSame P Q → ⊥) × IsSettled task Q from
