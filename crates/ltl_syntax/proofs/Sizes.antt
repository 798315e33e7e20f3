-- The sizes of a table's nodes, with one node more. Each node has a size of at least 1.
use Rattle.std.proofs.Common.{◌≡◌, ℕ, zero, suc, ◌+◌, ◌≤◌, List, [], ◌∷◌, ◌++◌, length, Some, arith, slice_get, subst}
use Rattle.ltl_syntax.specs.declared.node.UnaryOp.{UnaryOp}
use Rattle.ltl_syntax.specs.declared.node.Node.{Node}
use Rattle.ltl_syntax.specs.declared.node.Node.TheVariants as nodes
use Rattle.ltl_syntax.specs.Shape.{Range, Step, Ever, Exactly, Between, Shape, Negation, Somewhere, Everywhere, shape}
use Rattle.ltl_syntax.specs.Size.{range_size, shape_size, operator_size, node_size, sizes, HasOrder, HaveOrder}

pub sizes-push : (ns : List Node) (n : Node) → sizes (ns ++ n ∷ []) ≡ sizes ns + node_size n
sizes-push [] n = omega arith
sizes-push (x ∷ ns) n = omega (arith, sizes-push ns n)

pub ordered-push : (ns : List Node) (n : Node) → HaveOrder ns → HasOrder n → HaveOrder (ns ++ n ∷ [])
ordered-push [] n h k = (k, tt)
ordered-push (x ∷ ns) n h k = (h.0, ordered-push ns n h.1 k)

some_range_size : (range : Range) → 1 ≤ range_size range
some_range_size Step = omega arith
some_range_size other = omega arith

some_shape_size : (look : Shape) → 1 ≤ shape_size look
some_shape_size Negation = omega arith
some_shape_size (Somewhere side range) = some_range_size range
some_shape_size (Everywhere side range) = some_range_size range

pub some_operator_size : (op : UnaryOp) → 1 ≤ operator_size op
some_operator_size op = some_shape_size (shape op)

pub some_node_size : (n : Node) → 1 ≤ node_size n
some_node_size (nodes.Unary op a) = some_operator_size op
some_node_size other = omega arith

-- there are no more nodes than their sizes add up to
pub length-sizes : (ns : List Node) → length ns ≤ sizes ns
length-sizes [] = omega arith
length-sizes (n ∷ ns) = omega (arith, length-sizes ns, some_node_size n)

pub order_at : (ns : List Node) → HaveOrder ns → (k : ℕ) (node : Node) → slice_get ns k ≡ Some node → HasOrder node
order_at [] h k node e = absurd (cc)
order_at (n ∷ ns) h zero node e = let is : n ≡ node = cc in subst HasOrder is h.0
order_at (n ∷ ns) h (suc k) node e = order_at ns h.1 k node e
