-- Internal: what the reader's stack stands for, and what its private functions do to it. No public contract cites this file.
use Rattle.std.specs.Prelude.{◌≡◌, ℕ, suc, ◌+◌, ◌<◌, ◌≤◌, Bool, true, false, List, [], ◌∷◌, ◌++◌, length, cond, Option, Some, None, nat_le, if◌then◌else◌, take}
use Rattle.std.specs.Prelude.{drop}
use Rattle.ltl_syntax.specs.declared.node.UnaryOp.{UnaryOp}
use Rattle.ltl_syntax.specs.declared.node.BinaryOp.{BinaryOp}
use Rattle.ltl_syntax.specs.declared.node.Node.{Node}
use Rattle.ltl_syntax.specs.declared.node.Node.TheVariants as nodes
use Rattle.ltl_syntax.specs.Formula.{Formula, Const, Letter, Name}
use Rattle.ltl_syntax.specs.Table.{Table, tree_at, IsRoot}
use Rattle.ltl_syntax.specs.Size.{operator_size, sizes, IsInOrder}
use Rattle.ltl_parser.specs.Grammar.{Symbol, Leaf, Prefix, Infix, Open, Close, opens, closes, strength, groups_left, IsOuter, Reads, walk, Wanted, Operand}
use Rattle.ltl_parser.specs.Grammar.{Operator, fault, weight, node_count}
use Rattle.ltl_parser.specs.Text.{with_name, names_of}
use Rattle.ltl_parser.specs.declared.meaning.Meaning.{Meaning}
use Rattle.ltl_parser.specs.declared.meaning.Meaning.TheVariants as means
use Rattle.ltl_parser.specs.declared.stack.Waiting.{Waiting}
use Rattle.ltl_parser.specs.declared.stack.Waiting.TheVariants as waits

-- what a token means, apart from its bytes
abbrev pub symbol_meant : Meaning → List ℕ → Symbol
symbol_meant (means.Constant b) bytes = Leaf (Const b)
symbol_meant means.Name bytes = Leaf (Letter (Name bytes))
symbol_meant (means.Prefix op) bytes = Prefix op
symbol_meant (means.Infix op) bytes = Infix op
symbol_meant means.Open bytes = Open
symbol_meant means.Close bytes = Close

-- each ) of the list closes a ( of the list, and each ( is closed
pub record IsEven (ts : List Symbol) : Type 0 where
  pub level : opens ts ≡ closes ts
  pub before : (b : List Symbol) (t : Symbol) (a : List Symbol) → ts ≡ b ++ t ∷ a → closes b ≤ opens b

-- the list reads as the formula, and no operator of it outside all parentheses is weaker than k
pub record IsPart (k : ℕ) (ts : List Symbol) (f : Formula) : Type 0 where
  pub reads : Reads ts f
  pub even : IsEven ts
  pub above : (b : List Symbol) (o : BinaryOp) (a : List Symbol) → IsOuter ts b o a → k ≤ strength o

-- the least strength of what may stand on the left of an operator without parentheses
abbrev pub left_bound : BinaryOp → ℕ
left_bound o = cond (groups_left (strength o)) (strength o) (suc (strength o))

-- and on its right
abbrev pub right_bound : BinaryOp → ℕ
right_bound o = cond (groups_left (strength o)) (suc (strength o)) (strength o)

-- what waits: an open parenthesis, an operator before its operand, a left operand with its operator
pub data Frame : Type 0 where
  Paren : Frame
  Pre : UnaryOp → Frame
  Half : Formula → BinaryOp → Frame

-- how strong the next operand must be
abbrev pub bound : List Frame → ℕ
bound [] = 0
bound (Paren ∷ fs) = 0
bound (Pre op ∷ fs) = 5
bound (Half f op ∷ fs) = right_bound op

-- the parentheses that are open
abbrev pub parens : List Frame → ℕ
parens [] = 0
parens (Paren ∷ fs) = suc (parens fs)
parens (Pre op ∷ fs) = parens fs
parens (Half f op ∷ fs) = parens fs

-- the frames, the top first, stand for the list
abbrev pub Stands : List Frame → List Symbol → Type 0
Stands [] ts = ts ≡ []
Stands (Paren ∷ fs) ts = (b : List Symbol) × Stands fs b × (ts ≡ b ++ Open ∷ [])
Stands (Pre op ∷ fs) ts = (b : List Symbol) × Stands fs b × (ts ≡ b ++ Prefix op ∷ [])
Stands (Half f op ∷ fs) ts =
    (b : List Symbol) × (l : List Symbol) × Stands fs b × IsPart (left_bound op) l f × (bound fs ≤ strength op) × (ts ≡ b ++ (l ++ Infix op ∷ []))

-- the list is that of the frames and then an operand, at least as strong as m and as the frames want
pub record IsHeld (m : ℕ) (fs : List Frame) (ts : List Symbol) (f : Formula) : Type 0 where
  pub before : List Symbol
  pub text : List Symbol
  pub level : ℕ
  pub stands : Stands fs before
  pub part : IsPart level text f
  pub fits : bound fs ≤ level
  pub asked : m ≤ level
  pub whole : ts ≡ before ++ text

-- no operator on the stack is to take its operand before one that wants m on its left
abbrev pub IsStopped : ℕ → List Frame → Type 0
IsStopped m [] = Unit {0}
IsStopped m (Paren ∷ fs) = Unit {0}
IsStopped m (Pre op ∷ fs) = ⊥
IsStopped m (Half f op ∷ fs) = strength op < m

-- the frame that the code keeps: a left operand is a node of the table
abbrev pub frame_of : Table → Waiting → Frame
frame_of t waits.Paren = Paren
frame_of t (waits.Prefix op) = Pre op
frame_of t (waits.Infix left op) = Half (tree_at t left) op

-- the frames of the stack, the top first
abbrev pub frames : Table → List Waiting → List Frame
frames t [] = []
frames t (w ∷ ws) = frame_of t w ∷ frames t ws

-- the nodes that are still to be made of what waits
abbrev pub to_make : List Waiting → ℕ
to_make [] = 0
to_make (waits.Paren ∷ ws) = to_make ws
to_make (waits.Prefix op ∷ ws) = suc (to_make ws)
to_make (waits.Infix left op ∷ ws) = suc (to_make ws)

-- and their sizes
abbrev pub to_weigh : List Waiting → ℕ
to_weigh [] = 0
to_weigh (waits.Paren ∷ ws) = to_weigh ws
to_weigh (waits.Prefix op ∷ ws) = operator_size op + to_weigh ws
to_weigh (waits.Infix left op ∷ ws) = suc (to_weigh ws)

-- a symbol is a node, but for a parenthesis
abbrev pub unit : Symbol → ℕ
unit (Leaf f) = 1
unit (Prefix op) = 1
unit (Infix op) = 1
unit Open = 0
unit Close = 0

-- the symbols other than parentheses
abbrev pub units : List Symbol → ℕ
units [] = 0
units (x ∷ xs) = unit x + units xs

-- the left operands are roots, each below those above it and below high, and the numbers of the operators are in order
abbrev pub AreRoots : Table → List Waiting → ℕ → Type 0
AreRoots t [] high = Unit {0}
AreRoots t (waits.Paren ∷ ws) high = AreRoots t ws high
AreRoots t (waits.Prefix op ∷ ws) high = IsInOrder op × AreRoots t ws high
AreRoots t (waits.Infix left op ∷ ws) high = (left < high) × IsRoot t left × AreRoots t ws left

-- the stack, and the operand on it, which is the last node
pub record ArePending (t : Table) (ws : List Waiting) (operand : ℕ) : Type 0 where
  pub last : suc operand ≡ length t.nodes
  pub root : IsRoot t operand
  pub roots : AreRoots t ws operand

-- the node that the top of the stack makes of the operand, before an operator that wants m on its left
abbrev pub applied : ℕ → List Waiting → ℕ → Option Node
applied m [] operand = None
applied m (waits.Paren ∷ ws) operand = None
applied m (waits.Prefix op ∷ ws) operand = Some (nodes.Unary op operand)
applied m (waits.Infix left op ∷ ws) operand = if nat_le m (strength op) then Some (nodes.Binary op left operand) else None

-- the operand of a stack in a table becomes that of another, which stands for the same list
pub record Becomes (m : ℕ) (t : Table) (ws : List Waiting) (a : ℕ) (u : Table) (vs : List Waiting) (b : ℕ) : Type 0 where
  pub held : (ts : List Symbol) → IsHeld m (frames t ws) ts (tree_at t a) → IsHeld m (frames u vs) ts (tree_at u b)
  pub depth : parens (frames u vs) ≡ parens (frames t ws)
  pub pending : ArePending u vs b
  pub room : length u.nodes + to_make vs ≡ length t.nodes + to_make ws
  pub size : sizes u.nodes + to_weigh vs ≡ sizes t.nodes + to_weigh ws
  pub more : length t.nodes ≤ length u.nodes
  pub names : u.names ≡ t.names

-- a leaf was added to the table
pub record AddsLeaf (t : Table) (f : Formula) (u : Table) (n : ℕ) : Type 0 where
  pub tree : tree_at u n ≡ f
  pub root : IsRoot u n
  pub place : n ≡ length t.nodes
  pub count : length u.nodes ≡ suc (length t.nodes)
  pub size : sizes u.nodes ≡ suc (sizes t.nodes)
  pub names : u.names ≡ with_name t.names (Leaf f)
  pub few : length u.names ≤ suc (length t.names)
  pub others : (k : ℕ) → k < length t.nodes → tree_at u k ≡ tree_at t k
  pub roots : (k : ℕ) → IsRoot t k → IsRoot u k

-- with an operand on the stack or none, what was read so far
abbrev pub IsState : Table → List Waiting → Option ℕ → List Symbol → Type 0
IsState t ws None ts = Stands (frames t ws) ts
IsState t ws (Some n) ts = (m : ℕ) → IsHeld m (frames t ws) ts (tree_at t n)

-- what a table, a stack and an operand, where there is one, keep for the next node
abbrev pub AreReady : Table → List Waiting → Option ℕ → Type 0
AreReady t ws None = AreRoots t ws (length t.nodes)
AreReady t ws (Some n) = ArePending t ws n

-- behind an operand an operator is wanted
abbrev pub wanted : Option ℕ → Wanted
wanted None = Operand
wanted (Some n) = Operator

-- the symbol is one that the walk takes
abbrev pub IsTaken : Wanted → ℕ → Symbol → Type 0
IsTaken Operand n (Leaf f) = Unit {0}
IsTaken Operand n (Prefix op) = Unit {0}
IsTaken Operand n Open = Unit {0}
IsTaken Operand n (Infix op) = ⊥
IsTaken Operand n Close = ⊥
IsTaken Operator n (Infix op) = Unit {0}
IsTaken Operator n Close = 0 < n
IsTaken Operator n (Leaf f) = ⊥
IsTaken Operator n (Prefix op) = ⊥
IsTaken Operator n Open = ⊥

-- one symbol was read
pub record Steps (t : Table) (ws : List Waiting) (a : Option ℕ) (x : Symbol) (u : Table) (vs : List Waiting) (b : Option ℕ) : Type 0 where
  pub state : (ts : List Symbol) → IsState t ws a ts → IsState u vs b (ts ++ x ∷ [])
  pub goes_on : (rest : List Symbol) → walk (wanted a) (parens (frames t ws)) (x ∷ rest) ≡ None → walk (wanted b) (parens (frames u vs)) rest ≡ None
  pub ready : AreReady u vs b
  pub room : length u.nodes + to_make vs ≡ length t.nodes + to_make ws + unit x
  pub size : sizes u.nodes + to_weigh vs ≡ sizes t.nodes + to_weigh ws + weight x
  pub names : u.names ≡ with_name t.names x
  pub few : length u.names ≤ length u.nodes

-- between two steps: i of the symbols were read
pub record IsUnderWay (ss : List Symbol) (i : ℕ) (t : Table) (ws : List Waiting) (a : Option ℕ) : Type 0 where
  pub state : IsState t ws a (take i ss)
  pub clean : walk (wanted a) (parens (frames t ws)) (drop i ss) ≡ None
  pub ready : AreReady t ws a
  pub room : length t.nodes + to_make ws + units (drop i ss) ≡ units ss
  pub size : sizes t.nodes + to_weigh ws + node_count (drop i ss) ≡ node_count ss
  pub names : t.names ≡ names_of (take i ss)
  pub few : length t.names ≤ length t.nodes

-- the walk's state, which the code keeps as a flag
abbrev pub want : Bool → Wanted
want true = Operand
want false = Operator

-- a place behind i symbols
abbrev pub ahead : ℕ → Option ℕ → Option ℕ
ahead i None = None
ahead i (Some k) = Some (i + k)

-- the walk has passed i symbols
pub record IsWalking (ss : List Symbol) (i : ℕ) (w : Bool) (n nodes : ℕ) : Type 0 where
  pub place : fault ss ≡ ahead i (walk (want w) n (drop i ss))
  pub counted : nodes + node_count (drop i ss) ≡ node_count ss
