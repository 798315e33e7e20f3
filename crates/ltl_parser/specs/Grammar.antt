-- The readings of a token list, by the cases of the grammar; the walk, which finds a grammar fault; and the count of nodes.
use Rattle.std.specs.Prelude.{◌≡◌, ℕ, zero, suc, ◌+◌, ◌≤◌, Bool, true, false, not, ◌||◌, ◌==◌, List, [], ◌∷◌, ◌++◌, length, Option, Some, None}
use Rattle.ltl_syntax.specs.declared.node.UnaryOp.{UnaryOp}
use Rattle.ltl_syntax.specs.declared.node.BinaryOp.{BinaryOp}
use Rattle.ltl_syntax.specs.declared.node.BinaryOp.TheVariants as two
use Rattle.ltl_syntax.specs.Formula.{Formula, Unary, Binary}
use Rattle.ltl_syntax.specs.Size.{operator_size}

-- what a token says; a leaf is a constant or a letter
pub data Symbol : Type 0 where
  Leaf : Formula → Symbol
  Prefix : UnaryOp → Symbol
  Infix : BinaryOp → Symbol
  Open Close : Symbol

-- one where the symbol opens a parenthesis, and else none
abbrev pub opening : Symbol → ℕ
opening Open = 1
opening (Leaf f) = 0
opening (Prefix op) = 0
opening (Infix op) = 0
opening Close = 0

-- one where the symbol closes a parenthesis, and else none
abbrev pub closing : Symbol → ℕ
closing Close = 1
closing (Leaf f) = 0
closing (Prefix op) = 0
closing (Infix op) = 0
closing Open = 0

-- the opening parentheses of a list
abbrev pub opens : List Symbol → ℕ
opens [] = 0
opens (t ∷ ts) = opening t + opens ts

-- the closing parentheses of a list
abbrev pub closes : List Symbol → ℕ
closes [] = 0
closes (t ∷ ts) = closing t + closes ts

-- from the weakest to the strongest
abbrev pub strength : BinaryOp → ℕ
strength two.Iff = 0
strength two.Implies = 1
strength two.Or = 2
strength two.And = 3
strength two.Until = 4
strength two.Release = 4
strength two.WeakUntil = 4
strength two.StrongRelease = 4
strength two.Since = 4
strength two.Trigger = 4

-- whether a chain of operators of this strength is grouped from the left
abbrev pub groups_left : ℕ → Bool
groups_left n = not (n == 1 || n == 4)

-- an operator with what stands before it and after it, outside all parentheses
pub record IsOuter (ts before : List Symbol) (op : BinaryOp) (after : List Symbol) : Type 0 where
  pub whole : ts ≡ before ++ Infix op ∷ after
  pub level : opens before ≡ closes before

-- of two places the later one counts where a chain is grouped from the left, else the earlier one
abbrev pub Counts : Bool → ℕ → ℕ → Type 0
Counts true place other = other ≤ place
Counts false place other = place ≤ other

-- the operator at which the list is taken apart: a weakest outer one, and of those the last or the first
pub record IsMain (ts before : List Symbol) (op : BinaryOp) (after : List Symbol) : Type 0 where
  pub outer : IsOuter ts before op after
  pub weakest : (b : List Symbol) (o : BinaryOp) (a : List Symbol) → IsOuter ts b o a → strength op ≤ strength o
  pub place : (b : List Symbol) (o : BinaryOp) (a : List Symbol) → IsOuter ts b o a → strength o ≡ strength op
      → Counts (groups_left (strength op)) (length before) (length b)

-- no operator stands outside all parentheses
abbrev pub HasNoOuter : List Symbol → Type 0
HasNoOuter ts = (b : List Symbol) (o : BinaryOp) (a : List Symbol) → IsOuter ts b o a → ⊥

-- the list reads as the formula: apart at its main operator; else, without an outer one, an operator over the rest, or what is
-- enclosed in parentheses; or one leaf
pub data Reads : List Symbol → Formula → Type 0 where
  Apart : (ts before after : List Symbol) (op : BinaryOp) (f g : Formula) → IsMain ts before op after → Reads before f → Reads after g
      → Reads ts (Binary op f g)
  Applied : (ts rest : List Symbol) (op : UnaryOp) (f : Formula) → HasNoOuter ts → ts ≡ Prefix op ∷ rest → Reads rest f → Reads ts (Unary op f)
  Enclosed : (ts inner : List Symbol) (f : Formula) → HasNoOuter ts → ts ≡ Open ∷ (inner ++ Close ∷ []) → Reads inner f → Reads ts f
  Alone : (ts : List Symbol) (f : Formula) → ts ≡ Leaf f ∷ [] → Reads ts f

-- what the walk wants next
pub data Wanted : Type 0 where
  Operand Operator : Wanted

-- one symbol later, where there is a place
abbrev pub later : Option ℕ → Option ℕ
later None = None
later (Some n) = Some (suc n)

-- how many symbols the walk passes before the faulty one, if it meets one; the number is that of the open parentheses
abbrev pub walk : Wanted → ℕ → List Symbol → Option ℕ
walk Operand n [] = Some 0
walk Operand n (Leaf f ∷ ts) = later (walk Operator n ts)
walk Operand n (Prefix op ∷ ts) = later (walk Operand n ts)
walk Operand n (Open ∷ ts) = later (walk Operand (suc n) ts)
walk Operand n (Infix op ∷ ts) = Some 0
walk Operand n (Close ∷ ts) = Some 0
walk Operator zero [] = None
walk Operator (suc n) [] = Some 0
walk Operator n (Infix op ∷ ts) = later (walk Operand n ts)
walk Operator zero (Close ∷ ts) = Some 0
walk Operator (suc n) (Close ∷ ts) = later (walk Operator n ts)
walk Operator n (Leaf f ∷ ts) = Some 0
walk Operator n (Prefix op ∷ ts) = Some 0
walk Operator n (Open ∷ ts) = Some 0

-- how many symbols stand before the grammar fault, if there is one
abbrev pub fault : List Symbol → Option ℕ
fault ts = walk Operand 0 ts

-- an operand and an operator over two formulas have the size 1, an operator over one formula its own, and a parenthesis none
abbrev pub weight : Symbol → ℕ
weight (Leaf f) = 1
weight (Prefix op) = operator_size op
weight (Infix op) = 1
weight Open = 0
weight Close = 0

-- the nodes are counted by the sizes of the tokens other than parentheses
abbrev pub node_count : List Symbol → ℕ
node_count [] = 0
node_count (x ∷ xs) = weight x + node_count xs
