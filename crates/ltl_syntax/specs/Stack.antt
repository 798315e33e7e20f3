-- What the printer has on its stack, the text that this stands for, and how much work it is.
use Rattle.std.specs.Prelude.{ℕ, ◌+◌, ◌<◌, List, [], ◌∷◌, ◌++◌, length, codes}
use Rattle.ltl_syntax.specs.declared.printing.Work.{Work}
use Rattle.ltl_syntax.specs.declared.printing.Work.TheVariants as works
use Rattle.ltl_syntax.specs.Formula.{Formula, Const, Letter, Unary, Binary}
use Rattle.ltl_syntax.specs.Table.{Table, tree_at}
use Rattle.ltl_syntax.specs.Print.{text_of, binary_text}

-- how many pieces of work a tree is taken apart into
abbrev pub size_of : Formula → ℕ
size_of (Const b) = 1
size_of (Letter p) = 1
size_of (Unary op a) = size_of a + 1
size_of (Binary op a b) = size_of a + size_of b + 3

-- the text of a piece of work
abbrev pub work_text : Table → Work → List ℕ
work_text t (works.Tree number) = text_of (tree_at t number)
work_text t (works.Operator op) = binary_text op
work_text t works.Close = codes ")"

-- the pieces that it is taken apart into
abbrev pub work_size : Table → Work → ℕ
work_size t (works.Tree number) = size_of (tree_at t number)
work_size t (works.Operator op) = 1
work_size t works.Close = 1

-- a piece of work names a node of the table, if any
abbrev pub IsWork : Table → Work → Type 0
IsWork t (works.Tree number) = number < length t.nodes
IsWork t (works.Operator op) = Unit {0}
IsWork t works.Close = Unit {0}

-- the text of a stack: its last piece is printed first
abbrev pub works_text : Table → List Work → List ℕ
works_text t [] = []
works_text t (w ∷ ws) = works_text t ws ++ work_text t w

-- the pieces that a stack is taken apart into
abbrev pub works_size : Table → List Work → ℕ
works_size t [] = 0
works_size t (w ∷ ws) = works_size t ws + work_size t w

-- each piece of a stack names a node of the table, if any
abbrev pub AreWorks : Table → List Work → Type 0
AreWorks t [] = Unit {0}
AreWorks t (w ∷ ws) = IsWork t w × AreWorks t ws
