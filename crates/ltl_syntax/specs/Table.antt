-- What a table of formulas contains, and the tree under each of its nodes.
use Rattle.std.specs.Prelude.{◌≡◌, ◌≢◌, ℕ, ◌+◌, ◌<◌, ◌≤◌, ◌^◌, Bool, false, ◌||◌, ◌==◌, List, [], ◌∷◌, ◌++◌, length, slice_index_or, slice_get, Some}
use Rattle.std.specs.List.{list_any, count_by}
use Rattle.ltl_syntax.specs.declared.node.Node.{Node}
use Rattle.ltl_syntax.specs.declared.node.Node.TheVariants as nodes
use Rattle.ltl_syntax.specs.Formula.{Name, Fresh, Formula, Const, Letter, Unary, Binary}
use Rattle.ltl_syntax.specs.Size.{IsInOrder, sizes, HaveOrder}

-- the nodes, children before parents, and the names of the letters, each as its bytes
pub record Table : Type 0 where
  pub nodes : List Node
  pub names : List (List ℕ)

-- the tree of a number among the trees of earlier nodes
abbrev pub tree_among : List Formula → ℕ → Formula
tree_among trees number = slice_index_or trees number (Const false)

-- the tree that a node makes of the trees of earlier nodes
abbrev pub made : List (List ℕ) → List Formula → Node → Formula
made names trees (nodes.Const b) = Const b
made names trees (nodes.Letter n) = Letter (Name (slice_index_or names n []))
made names trees (nodes.Fresh n) = Letter (Fresh n)
made names trees (nodes.Unary op a) = Unary op (tree_among trees a)
made names trees (nodes.Binary op a b) = Binary op (tree_among trees a) (tree_among trees b)

-- the trees of the nodes, behind the trees of earlier ones
abbrev pub trees_after : List (List ℕ) → List Formula → List Node → List Formula
trees_after names trees [] = trees
trees_after names trees (node ∷ rest) = trees_after names (trees ++ made names trees node ∷ []) rest

-- the tree of each node
unfoldable pub trees_of : Table → List Formula
trees_of t = trees_after t.names [] t.nodes

-- the tree under a node number
abbrev pub tree_at : Table → ℕ → Formula
tree_at t number = tree_among (trees_of t) number

-- whether the number is a child of the node
abbrev pub has_child : ℕ → Node → Bool
has_child number (nodes.Const b) = false
has_child number (nodes.Letter n) = false
has_child number (nodes.Fresh n) = false
has_child number (nodes.Unary op a) = a == number
has_child number (nodes.Binary op a b) = a == number || b == number

-- the node is there and is no other node's child
abbrev pub IsRoot : Table → ℕ → Type 0
IsRoot t number = (number < length t.nodes) × (list_any (has_child number) t.nodes ≡ false)

-- the node may be the next one of the table
abbrev pub MayFollow : Table → Node → Type 0
MayFollow t (nodes.Const b) = Unit {0}
MayFollow t (nodes.Letter n) = n < length t.names
MayFollow t (nodes.Fresh n) = Unit {0}
MayFollow t (nodes.Unary op a) = IsRoot t a × IsInOrder op
MayFollow t (nodes.Binary op a b) = IsRoot t a × IsRoot t b × (a ≢ b)

-- the children of a node at this place are before it, and a letter has a name
abbrev pub IsFine : ℕ → ℕ → Node → Type 0
IsFine names place (nodes.Const b) = Unit {0}
IsFine names place (nodes.Letter n) = n < names
IsFine names place (nodes.Fresh n) = Unit {0}
IsFine names place (nodes.Unary op a) = a < place
IsFine names place (nodes.Binary op a b) = (a < place) × (b < place) × (a ≢ b)

-- each node at this place and behind it is so
abbrev pub AreFine : ℕ → ℕ → List Node → Type 0
AreFine names place [] = Unit {0}
AreFine names place (node ∷ rest) = IsFine names place node × AreFine names (place + 1) rest

-- a name that a formula text can contain doesn't begin with an opening brace
abbrev pub IsPlain : List ℕ → Type 0
IsPlain [] = Unit {0}
IsPlain (byte ∷ rest) = byte ≢ 123

-- what holds of every table: how much it holds, children before parents, no child used twice, bounds in order, and distinct plain names
pub record IsTable (nodes : List Node) (names : List (List ℕ)) : Type 0 where
  pub few : length nodes ≤ 16384
  pub small : sizes nodes ≤ 16384
  pub fine : AreFine (length names) 0 nodes
  pub single : (number : ℕ) → count_by (has_child number) nodes ≤ 1
  pub ordered : HaveOrder nodes
  pub few_names : length names < 2 ^ 32
  pub distinct : (i j : ℕ) → i < j → j < length names → slice_index_or names i [] ≢ slice_index_or names j []
  pub plain : (i : ℕ) → i < length names → IsPlain (slice_index_or names i [])

-- the new table has one node more, and all else as before
pub record Pushes (old : Table) (node : Node) (new : Table) : Type 0 where
  pub nodes : new.nodes ≡ old.nodes ++ node ∷ []
  pub names : new.names ≡ old.names
  pub tree : tree_at new (length old.nodes) ≡ made old.names (trees_of old) node
  pub others : (number : ℕ) → number < length old.nodes → tree_at new number ≡ tree_at old number
  pub root : IsRoot new (length old.nodes)
  pub roots : (number : ℕ) → IsRoot old number → has_child number node ≡ false → IsRoot new number

-- the text has this number in the new table: a name that was there keeps its number, and else it is the next
pub record Names (old : Table) (text : List ℕ) (number : ℕ) (new : Table) : Type 0 where
  pub nodes : new.nodes ≡ old.nodes
  pub known : (i : ℕ) → i < length old.names → slice_index_or old.names i [] ≡ text → (number ≡ i) × (new.names ≡ old.names)
  pub added : ((i : ℕ) → i < length old.names → slice_index_or old.names i [] ≢ text) → (number ≡ length old.names) × (new.names ≡ old.names ++ text ∷ [])
  pub name : slice_get new.names number ≡ Some text
  pub trees : trees_of new ≡ trees_of old
