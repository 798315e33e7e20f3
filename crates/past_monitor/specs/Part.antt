-- The formulas of a monitor, each made of earlier ones, and the value of each at a state.
use Rattle.std.specs.Prelude.{◌≡◌, ℕ, ◌-◌, ◌<◌, ◌≤◌, ⊤, Bool, true, false, not, ◌&&◌, ◌||◌, List, [], map, length, slice_index_or, slice_get, Some, ◌↔◌}
use Rattle.std.specs.Prelude.{IsTrue, Contains}
use Rattle.ltl_syntax.specs.declared.node.UnaryOp.{UnaryOp}
use Rattle.ltl_syntax.specs.declared.node.BinaryOp.{BinaryOp}
use Rattle.ltl_syntax.specs.declared.node.BinaryOp.TheVariants as two
use Rattle.ltl_syntax.specs.declared.node.Node.{Node}
use Rattle.ltl_syntax.specs.declared.node.Node.TheVariants as nodes
use Rattle.ltl_syntax.specs.Shape.{Direction, Future, Past, Range, Step, Exactly, Between, Ever, Shape, Negation, Somewhere, Everywhere, shape}
use Rattle.ltl_syntax.specs.Formula.{Fresh, Formula}
use Rattle.ltl_syntax.specs.Table.{Table, trees_after}
use Rattle.ltl_syntax.specs.Roots.{HasChildrenBelow}
use Rattle.ltl_word.specs.Trace.{Names}
use Rattle.ltl_word.specs.Holds.{name_of}
use Rattle.ltl_word.specs.Depth.{steps_back}
use Rattle.past_monitor.specs.declared.part.Part.{Part}
use Rattle.past_monitor.specs.Past.{IsPast, IsPast₁, IsPast₂}
use Rattle.past_monitor.specs.Kept.{kept_by}
use Rattle.past_monitor.specs.Monitor.{formula_at}
use Rattle.past_monitor.specs.Ring.{RingValue, same, value_back, shows, taken}

-- a ring that holds none, and one that holds one value
abbrev pub no_ring : List Bool → RingValue
no_ring values = record { room = 0; first = 0; sought = true; values = values }

abbrev pub one_ring : Bool → List Bool → RingValue
one_ring sought values = record { room = 1; first = 0; sought = sought; values = values }

-- the place from which the ring of an operator counts
abbrev pub first_in : Direction → Range → ℕ
first_in Future r = 0
first_in Past Step = 0
first_in Past (Exactly n) = 0
first_in Past (Between m n) = m
first_in Past Ever = 0

abbrev pub first_by : Shape → ℕ
first_by Negation = 0
first_by (Somewhere d r) = first_in d r
first_by (Everywhere d r) = first_in d r

-- before the first position an operator over every position finds no false value, and the other ones no true value
abbrev pub sought_by : Shape → Bool
sought_by Negation = true
sought_by (Somewhere d r) = true
sought_by (Everywhere Future r) = true
sought_by (Everywhere Past r) = false

-- the ring of an operator, with these values
abbrev pub ring₁ : UnaryOp → List Bool → RingValue
ring₁ op values = record { room = steps_back (shape op); first = first_by (shape op); sought = sought_by (shape op); values = values }

abbrev pub ring₂ : BinaryOp → List Bool → RingValue
ring₂ two.And values = no_ring values
ring₂ two.Or values = no_ring values
ring₂ two.Implies values = no_ring values
ring₂ two.Iff values = no_ring values
ring₂ two.Until values = no_ring values
ring₂ two.Release values = no_ring values
ring₂ two.WeakUntil values = no_ring values
ring₂ two.StrongRelease values = no_ring values
ring₂ two.Since values = one_ring true values
ring₂ two.Trigger values = one_ring false values

abbrev pub ring_of : Node → List Bool → RingValue
ring_of (nodes.Const b) values = no_ring values
ring_of (nodes.Letter n) values = no_ring values
ring_of (nodes.Fresh n) values = no_ring values
ring_of (nodes.Unary op a) values = ring₁ op values
ring_of (nodes.Binary op a b) values = ring₂ op values

-- the value at a state of an operator over some position, and with `false` over every one, from those of its operand there and its ring
abbrev pub value_in : Bool → Direction → Range → RingValue → Bool → Bool
value_in some Future r ring a = false
value_in some Past Step ring a = value_back ring 1 a
value_in some Past (Exactly n) ring a = value_back ring n a
value_in some Past (Between m n) ring a = same some (shows ring a)
value_in true Past Ever ring a = a || value_back ring 1 a
value_in false Past Ever ring a = a && value_back ring 1 a

abbrev pub value_by : Shape → RingValue → Bool → Bool
value_by Negation ring a = not a
value_by (Somewhere d r) ring a = value_in true d r ring a
value_by (Everywhere d r) ring a = value_in false d r ring a

abbrev pub value₁ : UnaryOp → RingValue → Bool → Bool
value₁ op r a = value_by (shape op) r a

abbrev pub value₂ : BinaryOp → RingValue → Bool → Bool → Bool
value₂ two.And r a b = a && b
value₂ two.Or r a b = a || b
value₂ two.Implies r a b = not a || b
value₂ two.Iff r a b = (a && b) || (not a && not b)
value₂ two.Until r a b = false
value₂ two.Release r a b = false
value₂ two.WeakUntil r a b = false
value₂ two.StrongRelease r a b = false
value₂ two.Since r a b = b || (a && value_back r 1 a)
value₂ two.Trigger r a b = b && (a || value_back r 1 a)

-- which value joins the ring
abbrev pub joining₁ : UnaryOp → Bool → Bool → Bool
joining₁ op a v = kept_by (shape op) a v

-- one of a list of values
abbrev pub value_at : List Bool → ℕ → Bool
value_at values i = slice_index_or values i false

-- the value of a node at a state, where its children have these values
abbrev pub IsValue : Names → List Bool → Node → List ℕ → RingValue → Bool → Type 0
IsValue state values (nodes.Const b) name r v = v ≡ b
IsValue state values (nodes.Letter n) name r v = IsTrue v ↔ Contains state name
IsValue state values (nodes.Fresh n) name r v = IsTrue v ↔ Contains state name
IsValue state values (nodes.Unary op a) name r v = v ≡ value₁ op r (value_at values a)
IsValue state values (nodes.Binary op a b) name r v = v ≡ value₂ op r (value_at values a) (value_at values b)

abbrev pub joining : List Bool → Node → Bool → Bool
joining values (nodes.Const b) v = v
joining values (nodes.Letter n) v = v
joining values (nodes.Fresh n) v = v
joining values (nodes.Unary op a) v = joining₁ op (value_at values a) v
joining values (nodes.Binary op a b) v = v

-- the node's operator does not look ahead
abbrev pub IsPastNode : Node → Type 0
IsPastNode (nodes.Const b) = ⊤
IsPastNode (nodes.Letter n) = ⊤
IsPastNode (nodes.Fresh n) = ⊤
IsPastNode (nodes.Unary op a) = IsPast₁ op
IsPastNode (nodes.Binary op a b) = IsPast₂ op

-- the name of a letter, and any name for another node
abbrev pub IsNamed : List (List ℕ) → Node → List ℕ → Type 0
IsNamed names (nodes.Const b) name = ⊤
IsNamed names (nodes.Letter n) name = name ≡ slice_index_or names n []
IsNamed names (nodes.Fresh n) name = name ≡ name_of (Fresh n)
IsNamed names (nodes.Unary op a) name = ⊤
IsNamed names (nodes.Binary op a b) name = ⊤

-- a letter has a name
abbrev pub HasName : ℕ → Node → Type 0
HasName names (nodes.Const b) = ⊤
HasName names (nodes.Letter n) = n < names
HasName names (nodes.Fresh n) = ⊤
HasName names (nodes.Unary op a) = ⊤
HasName names (nodes.Binary op a b) = ⊤

-- the part may stand at this place: its children are before it, and it has the name and the ring of its node
pub record IsPart (names : List (List ℕ)) (place : ℕ) (p : Part) : Type 0 where
  pub below : HasChildrenBelow place p.node
  pub named : IsNamed names p.node p.name
  pub ring : p.kept ≡ ring_of p.node p.kept.values

-- one of a list of parts
abbrev pub part_at : List Part → ℕ → Part
part_at parts i = slice_index_or parts i (record { node = nodes.Const false; name = []; kept = no_ring [] })

abbrev pub nodes_of : List Part → List Node
nodes_of parts = map (λ p. p.node) parts

-- the formulas of the parts
abbrev pub formulas_of : List (List ℕ) → List Part → List Formula
formulas_of names parts = trees_after names [] (nodes_of parts)

-- the formula of the last part
abbrev pub last_of : List (List ℕ) → List Part → Formula
last_of names parts = formula_at (formulas_of names parts) (length parts - 1)

-- what is kept for each part
abbrev pub kept_of : List Part → List (List Bool)
kept_of parts = map (λ p. p.kept.values) parts

-- for how many kept values of each part there is memory
abbrev pub rooms_of : List Part → List ℕ
rooms_of parts = map (λ p. p.kept.room) parts

-- nothing is kept yet for any part
abbrev pub AreFresh : List Part → Type 0
AreFresh parts = (i : ℕ) → i < length parts → (part_at parts i).kept.values ≡ []

-- the children of each part are before it
abbrev pub HaveChildrenBelow : List Part → Type 0
HaveChildrenBelow parts = (i : ℕ) → i < length parts → HasChildrenBelow i (part_at parts i).node

-- each part may stand at its place, and its formula does not look ahead
pub record AreParts (names : List (List ℕ)) (parts : List Part) : Type 0 where
  pub each : (i : ℕ) → i < length parts → IsPart names i (part_at parts i)
  pub past : (i : ℕ) → i < length parts → IsPast (formula_at (formulas_of names parts) i)

-- what holds of a monitor's fields
pub record IsMonitor (names : List (List ℕ)) (parts : List Part) (values : List Bool) : Type 0 where
  pub some : 0 < length parts
  pub long : length values ≡ length parts
  pub parts_are : AreParts names parts

-- the part after a step in which it has this value
abbrev pub part_after : List Bool → Bool → Part → Part
part_after values v p = record p { kept = taken p.kept (joining values p.node v) }

-- each of the first n parts has its value at the state, and has taken it, and the other ones are as they were
pub record AreSteppedTo (n : ℕ) (state : Names) (old new : List Part) (values : List Bool) : Type 0 where
  pub long : length new ≡ length old
  pub long_values : length values ≡ length old
  pub right : (i : ℕ) → i < n → IsValue state values (part_at old i).node (part_at old i).name (part_at old i).kept (value_at values i)
  pub after : (i : ℕ) → i < n → part_at new i ≡ part_after values (value_at values i) (part_at old i)
  pub rest : (i : ℕ) → n ≤ i → part_at new i ≡ part_at old i

abbrev pub AreStepped : Names → List Part → List Part → List Bool → Type 0
AreStepped state old new values = AreSteppedTo (length old) state old new values

-- ---- the nodes under a root

-- the node over the places of its children
abbrev pub moved : List ℕ → Node → Node
moved places (nodes.Const b) = nodes.Const b
moved places (nodes.Letter n) = nodes.Letter n
moved places (nodes.Fresh n) = nodes.Fresh n
moved places (nodes.Unary op a) = nodes.Unary op (slice_index_or places a 0)
moved places (nodes.Binary op a b) = nodes.Binary op (slice_index_or places a 0) (slice_index_or places b 0)

-- the part is new, and stands for the node with this number, over these places: a node that does not look ahead
pub record IsPartOf (t : Table) (places : List ℕ) (number : ℕ) (p : Part) : Type 0 where
  pub node : Node
  pub at : slice_get t.nodes number ≡ Some node
  pub past : IsPastNode node
  pub over : p.node ≡ moved places node
  pub named : IsNamed t.names (moved places node) p.name
  pub ring : p.kept ≡ ring_of (moved places node) []

-- the node with this number looks ahead
abbrev pub LooksAhead : Table → ℕ → Type 0
LooksAhead t number = (node : Node) × (slice_get t.nodes number ≡ Some node) × (IsPastNode node → ⊥)
