-- The marked nodes of a table, copied behind those of another: each under a new number, on top of roots.
use Rattle.std.specs.Prelude.{◌≡◌, ◌≢◌, ℕ, ◌+◌, ◌<◌, ◌≤◌, ◌⊎◌, ◌↔◌, ◌&&◌, true, false, List, [], length, slice_get, slice_index_or, nat_lt, Option, Some, None}
use Rattle.std.specs.Prelude.{IsTrue, IsFalse}
use Rattle.ltl_syntax.specs.declared.node.Node.{Node}
use Rattle.ltl_syntax.specs.declared.node.Node.TheVariants as nodes
use Rattle.ltl_syntax.specs.Size.{HasOrder, sizes, node_size, formula_size}
use Rattle.ltl_syntax.specs.Table.{Table, tree_at, trees_of, made, has_child, IsRoot, IsFine, Pushes}
use Rattle.formula_copy.specs.Part.{Marks}

-- the new number of each
abbrev pub Numbers : Type 0
Numbers = ℕ → ℕ

-- the numbers of a list, one for each node from the first on
abbrev pub numbers_in : List ℕ → Numbers
numbers_in list n = slice_index_or list n 0

-- which nodes are copied: the marked ones below k
abbrev pub done : Marks → ℕ → Marks
done M k n = nat_lt n k && M n

-- the node over the new numbers, with this number of its letter's name
abbrev pub moved : Numbers → ℕ → Node → Node
moved new letter (nodes.Const b) = nodes.Const b
moved new letter (nodes.Letter n) = nodes.Letter letter
moved new letter (nodes.Fresh n) = nodes.Fresh n
moved new letter (nodes.Unary op a) = nodes.Unary op (new a)
moved new letter (nodes.Binary op a b) = nodes.Binary op (new a) (new b)

-- the letter's name has this number in the other table
abbrev pub IsNamed : Table → Table → ℕ → Node → Type 0
IsNamed s t letter (nodes.Const b) = Unit {0}
IsNamed s t letter (nodes.Letter n) = (letter < length t.names) × (slice_index_or t.names letter [] ≡ slice_index_or s.names n [])
IsNamed s t letter (nodes.Fresh n) = Unit {0}
IsNamed s t letter (nodes.Unary op a) = Unit {0}
IsNamed s t letter (nodes.Binary op a b) = Unit {0}

-- the table has the same nodes and trees, and perhaps a name more
pub record KeepsTrees (t t' : Table) : Type 0 where
  pub nodes : t'.nodes ≡ t.nodes
  pub trees : trees_of t' ≡ trees_of t
  pub names : length t'.names ≤ length t.names + 1

-- the node is one of s over the new numbers, and may follow the nodes of t', which had no name before perhaps
pub record IsMoved (s : Table) (new : Numbers) (node : Node) (t t' : Table) (copy : Node) : Type 0 where
  pub letter : ℕ
  pub is : copy ≡ moved new letter node
  pub named : IsNamed s t' letter node
  pub keeps : KeepsTrees t t'

-- the copy of the node is the last node of t'
pub record IsCopyOfNode (s : Table) (new : Numbers) (node : Node) (t t' : Table) (number : ℕ) : Type 0 where
  pub middle : Table
  pub letter : ℕ
  pub named : IsNamed s middle letter node
  pub keeps : KeepsTrees t middle
  pub pushed : Pushes middle (moved new letter node) t'
  pub number_is : number ≡ length t.nodes

-- the node's children have roots of t under their new numbers, and not the same
abbrev pub StandsOnRoots : Table → Numbers → Node → Type 0
StandsOnRoots t new (nodes.Const b) = Unit {0}
StandsOnRoots t new (nodes.Letter n) = Unit {0}
StandsOnRoots t new (nodes.Fresh n) = Unit {0}
StandsOnRoots t new (nodes.Unary op a) = IsRoot t (new a)
StandsOnRoots t new (nodes.Binary op a b) = IsRoot t (new a) × IsRoot t (new b) × (new a ≢ new b)

-- no copied node has the node as a child
abbrev pub IsUnused : Table → Marks → ℕ → Type 0
IsUnused s D j = (i : ℕ) (node : Node) → IsTrue (D i) → slice_get s.nodes i ≡ Some node → has_child j node ≡ false

-- what the loop keeps: t was old before
pub record IsCopied (s : Table) (D : Marks) (new : Numbers) (old t : Table) : Type 0 where
  pub size : length old.nodes ≤ length t.nodes
  pub there : (j : ℕ) → IsTrue (D j) → new j < length t.nodes
  pub behind : (j : ℕ) → IsTrue (D j) → length old.nodes ≤ new j
  pub apart : (i j : ℕ) → IsTrue (D i) → IsTrue (D j) → i ≢ j → new i ≢ new j
  pub tree : (j : ℕ) → IsTrue (D j) → tree_at t (new j) ≡ tree_at s j
  pub root : (j : ℕ) → IsTrue (D j) → IsUnused s D j → IsRoot t (new j)
  pub below : (a i : ℕ) (node : Node) → IsTrue (D i) → slice_get s.nodes i ≡ Some node → has_child a node ≡ true → a < i
  pub others : (n : ℕ) → n < length old.nodes → tree_at t n ≡ tree_at old n
  pub roots : (n : ℕ) → IsRoot old n → IsRoot t n

-- node k of s, as a call of `node` tells it
pub record IsNode (s : Table) (k : ℕ) (node : Node) : Type 0 where
  pub is : slice_get s.nodes k ≡ Some node
  pub tree : tree_at s k ≡ made s.names (trees_of s) node
  pub fine : IsFine (length s.names) k node
  pub ordered : HasOrder node

-- the node's children are copied, and it is not
pub record IsNext (D : Marks) (k : ℕ) (node : Node) : Type 0 where
  pub children : (a : ℕ) → has_child a node ≡ true → IsTrue (D a)
  pub new : IsFalse (D k)

-- node k is copied as well, under this number, and the others keep theirs
pub record IsMore (D : Marks) (new : Numbers) (k number : ℕ) (D' : Marks) (new' : Numbers) : Type 0 where
  pub done : (n : ℕ) → IsTrue (D' n) ↔ (IsTrue (D n) ⊎ (n ≡ k))
  pub here : new' k ≡ number
  pub others : (n : ℕ) → IsTrue (D n) → new' n ≡ new n

-- the tree under the root stands in t under the number, which is a root behind the nodes of old. Trees and roots of old stay
pub record IsCopyOf (s : Table) (root : ℕ) (old t : Table) (number : ℕ) : Type 0 where
  pub behind : length old.nodes ≤ number
  pub is_root : IsRoot t number
  pub tree : tree_at t number ≡ tree_at s root
  pub size : length old.nodes ≤ length t.nodes
  pub others : (n : ℕ) → n < length old.nodes → tree_at t n ≡ tree_at old n
  pub roots : (n : ℕ) → IsRoot old n → IsRoot t n

-- how much a copy takes: the size of the tree, and no more names than nodes
pub record HasGrown (old t : Table) (size : ℕ) : Type 0 where
  pub sizes : sizes t.nodes ≡ sizes old.nodes + size
  pub names : length t.names ≤ length t.nodes

-- the tree is put behind the nodes of old, or it would make the table too large, which then stays as it is
abbrev pub IsPut : Table → ℕ → Table → Table → Option ℕ → Type 0
IsPut s root old t (Some number) = IsCopyOf s root old t number × HasGrown old t (formula_size (tree_at s root))
IsPut s root old t None = (t ≡ old) × (16384 < sizes old.nodes + formula_size (tree_at s root))

-- so for one node on top of roots
abbrev pub IsPutOn : Node → Table → Table → Option ℕ → Type 0
IsPutOn node old t (Some number) = (number ≡ length old.nodes) × Pushes old node t
IsPutOn node old t None = (t ≡ old) × (16384 < sizes old.nodes + node_size node)
