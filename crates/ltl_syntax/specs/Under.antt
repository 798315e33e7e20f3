-- The nodes of the tree under a root.
use Rattle.std.specs.Prelude.{◌≡◌, ℕ, ◌↔◌, Bool, false, List, slice_get, slice_index_or, Some, IsTrue}
use Rattle.ltl_syntax.specs.declared.node.Node.{Node}
use Rattle.ltl_syntax.specs.declared.node.Node.TheVariants as nodes
use Rattle.ltl_syntax.specs.Size.{node_size}
use Rattle.ltl_syntax.specs.Table.{Table, has_child}

-- the root is under itself, and so is each child of a node that is
pub data IsUnder (t : Table) (root : ℕ) : ℕ → Type 0 where
  Here : (number : ℕ) → number ≡ root → IsUnder t root number
  Below : (parent number : ℕ) (node : Node) → IsUnder t root parent → slice_get t.nodes parent ≡ Some node → IsTrue (has_child number node)
      → IsUnder t root number

-- the nodes under the root are marked, and no others
abbrev pub AreMarksUnder : Table → ℕ → List Bool → Type 0
AreMarksUnder t root marks = (number : ℕ) → IsTrue (slice_index_or marks number false) ↔ IsUnder t root number

-- the size of the node with a number
abbrev pub size_at : Table → ℕ → ℕ
size_at t number = node_size (slice_index_or t.nodes number (nodes.Const false))
