-- The walk that finds the order of the nodes: what waits loses a node at each step.
use Rattle.std.proofs.Common.{◌≡◌, ℕ, ◌+◌, ◌<◌, ap, arith, List, [], ◌∷◌, ◌++◌, length}
use Rattle.std.specs.Prelude.{⊤}
use Rattle.ltl_syntax.specs.declared.node.Node.{Node}
use Rattle.ltl_syntax.specs.declared.node.Node.TheVariants as nodes
use Rattle.ltl_syntax.specs.Formula.{nodes_in}
use Rattle.ltl_syntax.specs.Table.{Table, tree_at, trees_of, made}
use Rattle.depast.specs.Postorder.{operands}

-- how many nodes the trees of these numbers have
abbrev pub nodes_on : Table → List ℕ → ℕ
nodes_on t [] = 0
nodes_on t (number ∷ rest) = nodes_in (tree_at t number) + nodes_on t rest

-- each number is that of a node
abbrev pub AreThere : Table → List ℕ → Type 0
AreThere t [] = ⊤
AreThere t (number ∷ rest) = (number < length t.nodes) × AreThere t rest

fewer_of : (t : Table) (node : Node) (rest : List ℕ) → nodes_on t (operands node ++ rest) + 1 ≡ nodes_in (made t.names (trees_of t) node) + nodes_on t rest
fewer_of t (nodes.Const b) rest = omega arith
fewer_of t other rest = omega arith

pub fewer : (t : Table) (number : ℕ) (node : Node) (rest : List ℕ) → tree_at t number ≡ made t.names (trees_of t) node
    → nodes_on t (operands node ++ rest) < nodes_on t (number ∷ rest)
fewer t number node rest e = let f = fewer_of t node rest in
    let n : nodes_in (tree_at t number) ≡ nodes_in (made t.names (trees_of t) node) = ap nodes_in e in omega arith
