-- A formula of a table, as marks of its nodes.
use Rattle.std.specs.Prelude.{◌≡◌, ℕ, zero, suc, ◌+◌, ◌<◌, Bool, false, List, length, slice_index_or, cond}
use Rattle.ltl_syntax.specs.Table.{Table, tree_at}
use Rattle.ltl_syntax.specs.Size.{formula_size}
use Rattle.ltl_syntax.specs.Under.{AreMarksUnder, size_at}
use Rattle.formula_copy.specs.declared.parts.TablePart.{TablePart}

-- which numbers of nodes are marked
abbrev pub Marks : Type 0
Marks = ℕ → Bool

-- the marks of a list of flags, one for each node from the first on
abbrev pub marked : List Bool → Marks
marked flags n = slice_index_or flags n false

-- the sum of the weights of the numbers below k
abbrev pub sum_below : (ℕ → ℕ) → ℕ → ℕ
sum_below w zero = 0
sum_below w (suc k) = sum_below w k + w k

-- the size of a node where it is marked
abbrev pub marked_size : Table → Marks → ℕ → ℕ
marked_size t M n = cond (M n) (size_at t n) 0

-- a formula's root, the marks of the nodes under it, and its size
pub record IsPart (t : Table) (root : ℕ) (part : TablePart) : Type 0 where
  pub table : part.table.now ≡ t
  pub root_is : part.root ≡ root
  pub there : root < length t.nodes
  pub count : length part.marks.items ≡ root + 1
  pub under : AreMarksUnder t root part.marks.items
  pub size : part.size ≡ formula_size (tree_at t root)
