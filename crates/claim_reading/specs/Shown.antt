-- An entry as a node of a formula: its children are entries, by their numbers from 1.
use Rattle.std.specs.Prelude.{◌≡◌, ℕ, ◌<◌, Bool, true, false, if◌then◌else◌, List, [], length, slice_index_or, ⊤}
use Rattle.ltl_syntax.specs.Formula.{Name, Fresh, Formula, Const, Letter, Unary, Binary}
use Rattle.ltl_syntax.specs.declared.node.UnaryOp.{UnaryOp}
use Rattle.ltl_syntax.specs.declared.node.UnaryOp.TheVariants as one
use Rattle.ltl_syntax.specs.declared.node.BinaryOp.TheVariants as two
use Rattle.ltl_syntax.specs.declared.node.Node.{Node}
use Rattle.ltl_syntax.specs.declared.node.Node.TheVariants as nodes
use Rattle.ltl_closure.specs.Entries.{IsNumber, entry_at}
use Rattle.ltl_closure.specs.declared.entry.Entry.{Entry}
use Rattle.ltl_closure.specs.declared.entry.Entry.TheVariants as Is
use Rattle.claim_reading.specs.Readable.{entry_formula}

-- the entry is the constant true, or false
abbrev pub is_true_entry : Entry → Bool
is_true_entry Is.True = true
is_true_entry _ = false

abbrev pub is_false_entry : Entry → Bool
is_false_entry Is.False = true
is_false_entry _ = false

-- the node of an entry among these
abbrev pub node_by : List Entry → Entry → Node
node_by entries Is.True = nodes.Const true
node_by entries Is.False = nodes.Const false
node_by entries (Is.Letter n) = nodes.Letter n
node_by entries (Is.Fresh n) = nodes.Fresh n
node_by entries (Is.NotLetter a) = nodes.Unary one.Not a
node_by entries (Is.And a b) = nodes.Binary two.And a b
node_by entries (Is.Or a b) = nodes.Binary two.Or a b
node_by entries (Is.Until a b r) = if is_true_entry (entry_at entries a) then nodes.Unary one.Eventually b else nodes.Binary two.Until a b
node_by entries (Is.Release a b r) = if is_false_entry (entry_at entries a) then nodes.Unary one.Always b else nodes.Binary two.Release a b
node_by entries (Is.Since a b r) = if is_true_entry (entry_at entries a) then nodes.Unary one.Once b else nodes.Binary two.Since a b
node_by entries (Is.Trigger a b r) = if is_false_entry (entry_at entries a) then nodes.Unary one.Historically b else nodes.Binary two.Trigger a b
node_by entries (Is.Next a true) = nodes.Unary one.WeakNext a
node_by entries (Is.Next a false) = nodes.Unary one.Next a
node_by entries (Is.Yesterday a true) = nodes.Unary one.WeakYesterday a
node_by entries (Is.Yesterday a false) = nodes.Unary one.Yesterday a

-- the left operand that tells `F` from `U`, and so on, is one of this many entries
abbrev pub HasLeft : ℕ → Entry → Type 0
HasLeft w (Is.Until a b r) = IsNumber w a
HasLeft w (Is.Release a b r) = IsNumber w a
HasLeft w (Is.Since a b r) = IsNumber w a
HasLeft w (Is.Trigger a b r) = IsNumber w a
HasLeft w _ = ⊤

-- the formula of a node over the entries of f
abbrev pub shown : List (List ℕ) → Formula → Node → Formula
shown names f (nodes.Const b) = Const b
shown names f (nodes.Letter n) = Letter (Name (slice_index_or names n []))
shown names f (nodes.Fresh n) = Letter (Fresh n)
shown names f (nodes.Unary op a) = Unary op (entry_formula f a)
shown names f (nodes.Binary op a b) = Binary op (entry_formula f a) (entry_formula f b)

-- the operator has no numbers of its own
abbrev pub HasNoNumbers : UnaryOp → Type 0
HasNoNumbers one.Not = ⊤
HasNoNumbers one.Next = ⊤
HasNoNumbers one.WeakNext = ⊤
HasNoNumbers one.Eventually = ⊤
HasNoNumbers one.Always = ⊤
HasNoNumbers one.Yesterday = ⊤
HasNoNumbers one.WeakYesterday = ⊤
HasNoNumbers one.Once = ⊤
HasNoNumbers one.Historically = ⊤
HasNoNumbers (one.NextTimes n) = ⊥
HasNoNumbers (one.YesterdayTimes n) = ⊥
HasNoNumbers (one.EventuallyIn a b) = ⊥
HasNoNumbers (one.AlwaysIn a b) = ⊥
HasNoNumbers (one.OnceIn a b) = ⊥
HasNoNumbers (one.HistoricallyIn a b) = ⊥

-- its children come before entry t, and a letter is one of these many names
abbrev pub IsBefore : ℕ → ℕ → Node → Type 0
IsBefore names t (nodes.Const b) = ⊤
IsBefore names t (nodes.Letter n) = n < names
IsBefore names t (nodes.Fresh n) = ⊤
IsBefore names t (nodes.Unary op a) = (0 < a) × (a < t) × HasNoNumbers op
IsBefore names t (nodes.Binary op a b) = (0 < a) × (a < t) × (0 < b) × (b < t)

-- the node is entry t of f
pub record IsNodeOf (names : List (List ℕ)) (f : Formula) (t : ℕ) (node : Node) : Type 0 where
  pub formula : entry_formula f t ≡ shown names f node
  pub before : IsBefore (length names) t node
