-- How formulas of several tables come into one: one behind the other, each joined by `&` to those before it.
use Rattle.std.specs.Prelude.{◌≡◌, ℕ, ◌+◌, ◌<◌, ◌≤◌, Bool, true, false, List, [], ◌∷◌, length, Option, Some, None, ⊤}
use Rattle.ltl_syntax.specs.declared.node.UnaryOp.TheVariants.{Not}
use Rattle.ltl_syntax.specs.declared.node.BinaryOp.TheVariants.{And}
use Rattle.ltl_syntax.specs.Formula.{Formula, Const, Unary, Binary}
use Rattle.ltl_syntax.specs.Size.{formula_size, sizes}
use Rattle.ltl_syntax.specs.Table.{Table, tree_at, IsRoot}
use Rattle.requirement_questions.specs.declared.questions.Given.{Given}
use Rattle.requirement_questions.specs.declared.questions.Wanted.{Wanted}
use Rattle.requirement_questions.specs.declared.questions.Wanted.TheVariants as asked
use Rattle.requirement_questions.specs.declared.joining.Joined.{Joined}
use Rattle.requirement_questions.specs.Formulas.{all_of, formula_in}

-- a given formula, or its negation
abbrev pub part_formula : Given → Bool → Formula
part_formula g false = formula_in g
part_formula g true = Unary Not (formula_in g)

-- the formula stands in t under a root behind the nodes of old, whose trees and roots stay. It takes its size, and there are no more names than nodes
pub record StandsIn (f : Formula) (old t : Table) (number : ℕ) : Type 0 where
  pub behind : length old.nodes ≤ number
  pub is_root : IsRoot t number
  pub tree : tree_at t number ≡ f
  pub others : (n : ℕ) → n < length old.nodes → tree_at t n ≡ tree_at old n
  pub roots : (n : ℕ) → IsRoot old n → IsRoot t n
  pub sizes : sizes t.nodes ≡ sizes old.nodes + formula_size f
  pub names : length t.names ≤ length t.nodes

-- it was put there, or it would make the table too large
abbrev pub IsPartPut : Formula → Table → Table → Option ℕ → Type 0
IsPartPut f old t (Some number) = StandsIn f old t number
IsPartPut f old t None = 16384 < sizes old.nodes + formula_size f

-- what is joined so far: nothing, or the tree under a root
abbrev pub joined_at : Table → Option ℕ → Option Formula
joined_at t None = None
joined_at t (Some number) = Some (tree_at t number)

abbrev pub RootIsThere : Table → Option ℕ → Type 0
RootIsThere t None = ⊤
RootIsThere t (Some number) = IsRoot t number

abbrev pub size_of : Option Formula → ℕ
size_of None = 0
size_of (Some f) = formula_size f

-- `true` where there is none
abbrev pub or_true : Option Formula → Formula
or_true None = Const true
or_true (Some f) = f

-- one formula more
abbrev pub with_one : Option Formula → Formula → Formula
with_one None g = g
with_one (Some f) g = Binary And f g

-- these formulas in their order, where there are some
abbrev pub some_of : List Formula → Option Formula
some_of [] = None
some_of (f ∷ rest) = Some (all_of (f ∷ rest))

-- the table has what is joined so far, and nothing else
pub record IsBuilt (t : Table) (root : Option ℕ) : Type 0 where
  pub there : RootIsThere t root
  pub sizes : sizes t.nodes ≡ size_of (joined_at t root)
  pub names : length t.names ≤ length t.nodes

-- the formula is joined to what was before, or that would be too large
abbrev pub IsAdded : Option Formula → Formula → Table → Option ℕ → Type 0
IsAdded before f t (Some number) = IsBuilt t (Some number) × (tree_at t number ≡ with_one before f)
IsAdded before f t None = 16384 < formula_size (with_one before f)

-- the table has the formula that says all of these, or that is too large
abbrev pub IsJoining : List Formula → Option Joined → Type 0
IsJoining formulas (Some joined) = (joined.root < length joined.table.nodes) × (tree_at joined.table joined.root ≡ all_of formulas)
IsJoining formulas None = 16384 < formula_size (all_of formulas)

-- the formula of what is joined is there, and `true` where that is nothing
abbrev pub IsFinished : Option Formula → Table → Option ℕ → Type 0
IsFinished before t (Some number) = (number < length t.nodes) × (tree_at t number ≡ or_true before)
IsFinished before t None = ⊥

-- what is asked is joined as well, if anything is
abbrev pub IsWhole : Option Formula → Wanted → Table → Option ℕ → Type 0
IsWhole before asked.Nothing t number = IsFinished before t number
IsWhole before (asked.Holds g) t number = IsAdded before (part_formula g false) t number
IsWhole before (asked.Fails g) t number = IsAdded before (part_formula g true) t number
