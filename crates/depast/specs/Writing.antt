-- What is written of a formula without its past operators while its nodes come, each behind its operands.
use Rattle.std.specs.Prelude.{◌≡◌, ℕ, ◌+◌, ◌<◌, ◌≤◌, ◌^◌, List, [], ◌∷◌, ◌++◌, length, slice_index_or, ⊤}
use Rattle.ltl_syntax.specs.declared.node.Node.{Node}
use Rattle.ltl_syntax.specs.declared.node.Node.TheVariants as nodes
use Rattle.ltl_syntax.specs.Formula.{Name, Formula, Const, Letter, Unary, Binary}
use Rattle.ltl_syntax.specs.Size.{IsInOrder}
use Rattle.ltl_syntax.specs.Table.{Table, tree_at}
use Rattle.depast.specs.declared.symbol.Symbol.{Symbol}
use Rattle.depast.specs.declared.writer.Writer.{Writer}
use Rattle.depast.specs.Depast.{taken, taken₁, taken₂, residue, axioms, conjoined}
use Rattle.depast.specs.Symbols.{Letters, Reads, Writes}

-- the formulas on a stack, the last of them first, take their names one after the other
abbrev pub taken_by : List Formula → ℕ
taken_by [] = 0
taken_by (f ∷ fs) = taken_by fs + taken f

-- and so their axioms come
abbrev pub axioms_by : (ℕ → Formula) → List Formula → List Formula
axioms_by z [] = []
axioms_by z (f ∷ fs) = axioms_by z fs ++ axioms z (taken_by fs) f

-- the rows of their residues stand one behind the other, each from its start on
abbrev pub AreLaid : Letters → List Formula → List Symbol → List ℕ → Type 0
AreLaid l [] row starts = (row ≡ []) × (starts ≡ [])
AreLaid l (f ∷ fs) row starts = (front : List Symbol) × (back : List Symbol) × (earlier : List ℕ) × (row ≡ front ++ back) × (starts ≡ length front ∷ earlier)
    × Writes l back (residue l.new (taken_by fs) f) × AreLaid l fs front earlier

-- what is written where these formulas are done
pub record IsDone (l : Letters) (fs : List Formula) (row : List Symbol) (starts : List ℕ) (said : List Symbol) (next : ℕ) : Type 0 where
  pub laid : AreLaid l fs row starts
  pub said_is : (f : Formula) → Reads l said (f ∷ []) (conjoined f (axioms_by l.new fs) ∷ [])
  pub next_is : next ≡ taken_by fs

abbrev pub IsDoneBy : Letters → List Formula → Writer → Type 0
IsDoneBy l fs w = IsDone l fs w.row.items w.starts w.axioms.items w.next

-- a letter's number means its name
pub record MeansNames (l : Letters) (t : Table) : Type 0 where
  pub many_are : l.many ≡ length t.names
  pub each : (n : ℕ) → l.old n ≡ Letter (Name (slice_index_or t.names n []))

-- the trees of numbers
abbrev pub trees_at : Table → List ℕ → List Formula
trees_at t [] = []
trees_at t (number ∷ rest) = tree_at t number ∷ trees_at t rest

-- the last start, or the last two, are within this number of symbols
abbrev pub HasOne : List ℕ → ℕ → Type 0
HasOne [] n = ⊥
HasOne (start ∷ rest) n = start ≤ n

abbrev pub HasTwo : List ℕ → ℕ → Type 0
HasTwo [] n = ⊥
HasTwo (second ∷ []) n = ⊥
HasTwo (second ∷ first ∷ rest) n = (first ≤ second) × (second ≤ n)

-- the node's operands are done, and there are numbers for its names
abbrev pub MayCome : Node → Writer → Type 0
MayCome (nodes.Const b) w = ⊤
MayCome (nodes.Letter n) w = ⊤
MayCome (nodes.Fresh n) w = ⊤
MayCome (nodes.Unary op a) w = IsInOrder op × (w.next + taken₁ op < 2 ^ 32) × HasOne w.starts (length w.row.items)
MayCome (nodes.Binary op a b) w = (w.next + taken₂ op < 2 ^ 32) × HasTwo w.starts (length w.row.items)

-- a formula of one node that no operator makes
abbrev pub IsLeaf : Formula → Type 0
IsLeaf (Const b) = ⊤
IsLeaf (Letter p) = ⊤
IsLeaf (Unary op a) = ⊥
IsLeaf (Binary op a b) = ⊥
