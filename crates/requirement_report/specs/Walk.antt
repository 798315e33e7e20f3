-- What a walk over a formula has on its stack: the letters that this stands for, and how many nodes.
use Rattle.std.specs.Prelude.{ℕ, ◌+◌, ◌<◌, List, [], ◌∷◌, ◌++◌, length}
use Rattle.ltl_syntax.specs.Formula.{Formula, Const, Letter, Unary, Binary}
use Rattle.ltl_syntax.specs.Table.{Table, tree_at}
use Rattle.ltl_word.specs.Trace.{Names}
use Rattle.requirement_report.specs.Letters.{letters_of}

-- how many nodes a tree has
abbrev pub node_size : Formula → ℕ
node_size (Const b) = 1
node_size (Letter p) = 1
node_size (Unary op a) = node_size a + 1
node_size (Binary op a b) = node_size a + node_size b + 1

-- the letters of a stack: its last number is taken first
abbrev pub stack_letters : Table → List ℕ → Names
stack_letters t [] = []
stack_letters t (n ∷ ns) = stack_letters t ns ++ letters_of (tree_at t n)

-- the nodes of the trees on it
abbrev pub stack_size : Table → List ℕ → ℕ
stack_size t [] = 0
stack_size t (n ∷ ns) = stack_size t ns + node_size (tree_at t n)

-- each number on it is one of a node
abbrev pub AreNodes : Table → List ℕ → Type 0
AreNodes t [] = Unit {0}
AreNodes t (n ∷ ns) = (n < length t.nodes) × AreNodes t ns
