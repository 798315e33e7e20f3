-- How much of the limit on a formula's size its operators take: a bounded operator as much as it looks ahead or back.
use Rattle.std.specs.Prelude.{ℕ, ◌+◌, ◌≤◌, max, List, [], ◌∷◌, ⊤}
use Rattle.ltl_syntax.specs.declared.node.UnaryOp.{UnaryOp}
use Rattle.ltl_syntax.specs.declared.node.Node.{Node}
use Rattle.ltl_syntax.specs.declared.node.Node.TheVariants as nodes
use Rattle.ltl_syntax.specs.Shape.{Range, Step, Ever, Exactly, Between, Shape, Negation, Somewhere, Everywhere, shape}
use Rattle.ltl_syntax.specs.Formula.{Formula, Const, Letter, Unary, Binary}

-- a range has its last number for its size, but at least 1, and each other one has 1
abbrev pub range_size : Range → ℕ
range_size Step = 1
range_size Ever = 1
range_size (Exactly n) = max n 1
range_size (Between a b) = max b 1

abbrev pub shape_size : Shape → ℕ
shape_size Negation = 1
shape_size (Somewhere side range) = range_size range
shape_size (Everywhere side range) = range_size range

abbrev pub operator_size : UnaryOp → ℕ
operator_size op = shape_size (shape op)

-- a first number is not above its second
abbrev pub IsRange : Range → Type 0
IsRange Step = ⊤
IsRange Ever = ⊤
IsRange (Exactly n) = ⊤
IsRange (Between a b) = a ≤ b

abbrev pub HasRange : Shape → Type 0
HasRange Negation = ⊤
HasRange (Somewhere side range) = IsRange range
HasRange (Everywhere side range) = IsRange range

abbrev pub IsInOrder : UnaryOp → Type 0
IsInOrder op = HasRange (shape op)

-- the size of a formula: the sum over its nodes
abbrev pub formula_size : Formula → ℕ
formula_size (Const b) = 1
formula_size (Letter p) = 1
formula_size (Unary op a) = formula_size a + operator_size op
formula_size (Binary op a b) = formula_size a + formula_size b + 1

-- the size of a node
abbrev pub node_size : Node → ℕ
node_size (nodes.Const b) = 1
node_size (nodes.Letter n) = 1
node_size (nodes.Fresh n) = 1
node_size (nodes.Unary op a) = operator_size op
node_size (nodes.Binary op a b) = 1

-- the sum over nodes
abbrev pub sizes : List Node → ℕ
sizes [] = 0
sizes (node ∷ rest) = node_size node + sizes rest

-- the numbers of the node's operator are in order
abbrev pub HasOrder : Node → Type 0
HasOrder (nodes.Const b) = ⊤
HasOrder (nodes.Letter n) = ⊤
HasOrder (nodes.Fresh n) = ⊤
HasOrder (nodes.Unary op a) = IsInOrder op
HasOrder (nodes.Binary op a b) = ⊤

-- and so for each node
abbrev pub HaveOrder : List Node → Type 0
HaveOrder [] = ⊤
HaveOrder (node ∷ rest) = HasOrder node × HaveOrder rest
