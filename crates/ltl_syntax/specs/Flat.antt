-- The places of a formula in a table: the numbers of its nodes, in the order of their places.
use Rattle.std.specs.Prelude.{◌≡◌, Bool, true, false, ℕ, zero, suc, ◌+◌, ◌<◌, ◌&&◌, ◌==◌, nat_lt, cond, List, [], ◌∷◌, ◌++◌, length, slice_index_or, slice_get}
use Rattle.std.specs.Prelude.{Some, IsTrue}
use Rattle.std.specs.List.{list_any}
use Rattle.ltl_syntax.specs.declared.node.Node.{Node}
use Rattle.ltl_syntax.specs.declared.node.Node.TheVariants as nodes
use Rattle.ltl_syntax.specs.Table.{Table}
use Rattle.ltl_syntax.specs.Replacement.{Places}

-- the order of a number among the orders of earlier nodes
abbrev pub order_among : List (List ℕ) → ℕ → List ℕ
order_among orders number = slice_index_or orders number []

-- a node comes before what is under it, and left before right
abbrev pub ordered : List (List ℕ) → ℕ → Node → List ℕ
ordered orders number (nodes.Const b) = number ∷ []
ordered orders number (nodes.Letter n) = number ∷ []
ordered orders number (nodes.Fresh n) = number ∷ []
ordered orders number (nodes.Unary op a) = number ∷ order_among orders a
ordered orders number (nodes.Binary op a b) = number ∷ (order_among orders a ++ order_among orders b)

-- the orders of the nodes, behind the orders of earlier ones
abbrev pub orders_after : List (List ℕ) → List Node → List (List ℕ)
orders_after orders [] = orders
orders_after orders (node ∷ rest) = orders_after (orders ++ ordered orders (length orders) node ∷ []) rest

unfoldable pub orders_of : Table → List (List ℕ)
orders_of t = orders_after [] t.nodes

-- whether the node is a fresh letter
abbrev pub is_fresh : Node → Bool
is_fresh (nodes.Const b) = false
is_fresh (nodes.Letter n) = false
is_fresh (nodes.Fresh n) = true
is_fresh (nodes.Unary op a) = false
is_fresh (nodes.Binary op a b) = false

-- the nodes of the tree under a number, each at its place
abbrev pub order_at : Table → ℕ → List ℕ
order_at t number = order_among (orders_of t) number

-- the node at a place
abbrev pub node_at : Table → ℕ → ℕ → ℕ
node_at t root n = slice_index_or (order_at t root) n 0

-- the places at which the nodes of a list stand
abbrev pub places_of : Table → ℕ → List ℕ → Places
places_of t root numbers n = nat_lt n (length (order_at t root)) && list_any (λ m. m == node_at t root n) numbers

-- how many of this many places from one on are in P
unfoldable pub count_in : Places → ℕ → ℕ → ℕ
count_in P at zero = 0
count_in P at (suc n) = count_in P at n + cond (P (at + n)) 1 0

-- the second table is the first with a fresh letter in the place of each cut node, and the node at a place of P has as many cut before it as its letter says
pub record IsOverwritten (t : Table) (root : ℕ) (P : Places) (u : Table) : Type 0 where
  pub names : u.names ≡ t.names
  pub cut : (n : ℕ) → n < length (order_at t root) → IsTrue (P n) → slice_get u.nodes (node_at t root n) ≡ Some (nodes.Fresh (count_in P 0 n))
  pub kept : (number : ℕ) → number < length t.nodes → ((n : ℕ) → n < length (order_at t root) → IsTrue (P n) → node_at t root n ≡ number → ⊥)
      → slice_get u.nodes number ≡ slice_get t.nodes number
