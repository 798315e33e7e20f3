-- The nodes of a formula in a table, each behind its operands.
use Rattle.std.specs.Prelude.{◌≡◌, ℕ, List, [], ◌∷◌, ◌++◌, slice_get, Some}
use Rattle.ltl_syntax.specs.declared.node.Node.{Node}
use Rattle.ltl_syntax.specs.declared.node.Node.TheVariants as nodes
use Rattle.ltl_syntax.specs.Size.{HasOrder}
use Rattle.ltl_syntax.specs.Table.{Table, tree_at, trees_of, made}

-- the operands of a node, the right one first
abbrev pub operands : Node → List ℕ
operands (nodes.Const b) = []
operands (nodes.Letter n) = []
operands (nodes.Fresh n) = []
operands (nodes.Unary op a) = a ∷ []
operands (nodes.Binary op a b) = b ∷ a ∷ []

-- the node has this number, and the tree under the number is made of the trees of its operands
pub record IsNode (t : Table) (number : ℕ) (node : Node) : Type 0 where
  pub there : slice_get t.nodes number ≡ Some node
  pub tree : tree_at t number ≡ made t.names (trees_of t) node
  pub ordered : HasOrder node

-- with these formulas done, the last of them first, the order goes on and ends with the root alone: each node takes the place of its operands
abbrev pub Ends : Table → List ℕ → List ℕ → ℕ → Type 0
Ends t done [] root = done ≡ root ∷ []
Ends t done (number ∷ order) root = (node : Node) × (rest : List ℕ) × IsNode t number node × (done ≡ operands node ++ rest) × Ends t (number ∷ rest) order root
