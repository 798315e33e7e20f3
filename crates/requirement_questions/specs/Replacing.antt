-- Occurrences of a formula that are replaced though no trace satisfies it even then, and the parts that `&` joins.
use Rattle.std.specs.Prelude.{◌≡◌, ℕ, ◌<◌, List, map, length, All, Option, Some, None}
use Rattle.ltl_syntax.specs.declared.node.Kind.{Kind}
use Rattle.ltl_syntax.specs.declared.node.Node.{Node}
use Rattle.ltl_syntax.specs.declared.node.Node.TheVariants as nodes
use Rattle.ltl_syntax.specs.declared.node.BinaryOp.TheVariants.{And}
use Rattle.ltl_syntax.specs.Formula.{Formula, Binary}
use Rattle.ltl_syntax.specs.Table.{Table, tree_at}
use Rattle.ltl_syntax.specs.Replacement.{Places, AreApart, rep}
use Rattle.ltl_run.specs.Laws.{HasNoTrace}
use Rattle.requirement_questions.specs.declared.replacing.Replaced.{Replaced}
use Rattle.requirement_questions.specs.Formulas.{all_of}

-- it is f with some occurrences replaced, none of which is under another, and no trace of the kind satisfies it
pub record IsReplaced (kind : Kind) (f : Formula) (r : Replaced) : Type 0 where
  pub there : r.root < length r.table.nodes
  pub places : Places
  pub apart : AreApart f places
  pub tree : tree_at r.table r.root ≡ rep f places
  pub none : HasNoTrace kind (tree_at r.table r.root)

-- the children of a joint
abbrev pub and_children : Node → Option (ℕ × ℕ)
and_children (nodes.Binary And a b) = Some (a, b)
and_children node = None

-- a joint: the tree is that of one number `&` that of the other
pub record IsJoint (t : Table) (number left right : ℕ) : Type 0 where
  pub left_there : left < length t.nodes
  pub right_there : right < length t.nodes
  pub tree : tree_at t number ≡ Binary And (tree_at t left) (tree_at t right)

-- the trees of the table that the one under the root joins in their order
pub record ArePartsOf (t : Table) (root count : ℕ) (parts : List ℕ) : Type 0 where
  pub there : All (λ n. n < length t.nodes) parts
  pub many : length parts ≡ count
  pub all : all_of (map (tree_at t) parts) ≡ tree_at t root
