-- A formula is a tree. Its leaves are constants and letters, its inner nodes the operators of the enums `UnaryOp` and `BinaryOp`.
use Rattle.std.specs.Prelude.{ℕ, ◌+◌, Bool, List}
use Rattle.ltl_syntax.specs.declared.node.UnaryOp.{UnaryOp}
use Rattle.ltl_syntax.specs.declared.node.BinaryOp.{BinaryOp}

-- a letter: one with a name, as a list of bytes, or a fresh one with a number
pub data Atom : Type 0 where
  Name : List ℕ → Atom
  Fresh : ℕ → Atom
  deriving Discrete as Atom-discrete

-- a formula
pub data Formula : Type 0 where
  Const : Bool → Formula
  Letter : Atom → Formula
  Unary : UnaryOp → Formula → Formula
  Binary : BinaryOp → Formula → Formula → Formula

-- the number of nodes of a formula
abbrev pub nodes_in : Formula → ℕ
nodes_in (Const b) = 1
nodes_in (Letter p) = 1
nodes_in (Unary op a) = nodes_in a + 1
nodes_in (Binary op a b) = nodes_in a + nodes_in b + 1

-- no letter of the formula is fresh
abbrev pub HasNoFresh : Formula → Type 0
HasNoFresh (Const b) = Unit {0}
HasNoFresh (Letter (Name bytes)) = Unit {0}
HasNoFresh (Letter (Fresh n)) = ⊥
HasNoFresh (Unary op a) = HasNoFresh a
HasNoFresh (Binary op a b) = HasNoFresh a × HasNoFresh b
