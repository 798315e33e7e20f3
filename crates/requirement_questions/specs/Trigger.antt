-- What triggers a requirement.
use Rattle.std.specs.Prelude.{◌≡◌, ℕ, ◌<◌, Option, Some, None, length}
use Rattle.ltl_syntax.specs.declared.node.Node.{Node}
use Rattle.ltl_syntax.specs.declared.node.Node.TheVariants as nodes
use Rattle.ltl_syntax.specs.declared.node.UnaryOp.TheVariants.{Always, Eventually}
use Rattle.ltl_syntax.specs.declared.node.BinaryOp.TheVariants.{Implies}
use Rattle.ltl_syntax.specs.Formula.{Formula, Unary, Binary}
use Rattle.ltl_syntax.specs.Table.{Table, tree_at}

-- `G (a -> b)` is triggered where `a` holds at some time; no other formula has a trigger
abbrev pub trigger_of : Formula → Option Formula
trigger_of (Unary Always (Binary Implies a b)) = Some (Unary Eventually a)
trigger_of f = None

-- the tree under the node of the table is the trigger, or there is none
abbrev pub IsTrigger : Formula → Option (Table × ℕ) → Type 0
IsTrigger f (Some at) = (at.1 < length at.0.nodes) × (trigger_of f ≡ Some (tree_at at.0 at.1))
IsTrigger f None = trigger_of f ≡ None

-- the trigger is that with the tree under this node, or there is none
abbrev pub HasTrigger : Table → ℕ → Option ℕ → Type 0
HasTrigger s root (Some a) = (a < length s.nodes) × (trigger_of (tree_at s root) ≡ Some (Unary Eventually (tree_at s a)))
HasTrigger s root None = trigger_of (tree_at s root) ≡ None

-- the number of f where the node is `G f`, and that of a where it is `a -> b`
abbrev pub always_child : Node → Option ℕ
always_child (nodes.Unary Always a) = Some a
always_child node = None

abbrev pub condition_child : Node → Option ℕ
condition_child (nodes.Binary Implies a b) = Some a
condition_child node = None
