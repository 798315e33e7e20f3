-- The flags that a table keeps beside its nodes, so that a root is known at once.
use Rattle.std.specs.Prelude.{◌≡◌, ℕ, ◌<◌, Bool, false, not, List, length, slice_index_or}
use Rattle.std.specs.List.{list_any}
use Rattle.ltl_syntax.specs.declared.node.Node.{Node}
use Rattle.ltl_syntax.specs.declared.node.Node.TheVariants as nodes
use Rattle.ltl_syntax.specs.Table.{has_child}

-- each node has one flag, which is true where the node is no other node's child
pub record AreRootFlags (nodes : List Node) (flags : List Bool) : Type 0 where
  pub count : length flags ≡ length nodes
  pub each : (i : ℕ) → i < length nodes → slice_index_or flags i false ≡ not (list_any (has_child i) nodes)

-- the node's children have numbers below this one
abbrev pub HasChildrenBelow : ℕ → Node → Type 0
HasChildrenBelow place (nodes.Const b) = Unit {0}
HasChildrenBelow place (nodes.Letter n) = Unit {0}
HasChildrenBelow place (nodes.Fresh n) = Unit {0}
HasChildrenBelow place (nodes.Unary op a) = a < place
HasChildrenBelow place (nodes.Binary op a b) = (a < place) × (b < place)
