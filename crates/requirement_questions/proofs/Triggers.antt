-- The trees that a node makes of those of its children, where it is `G f` or `a -> b` and where it is not.
use Rattle.std.proofs.Common.{◌≡◌, ◌∙◌, ℕ, ◌<◌, List, length, Option, Some, None, refl, sym, ap, subst, arith}
use Rattle.ltl_syntax.specs.declared.node.Node.{Node}
use Rattle.ltl_syntax.specs.declared.node.Node.TheVariants as nodes
use Rattle.ltl_syntax.specs.declared.node.UnaryOp.TheVariants as one
use Rattle.ltl_syntax.specs.declared.node.BinaryOp.TheVariants as two
use Rattle.ltl_syntax.specs.Formula.{Formula, Unary, Binary}
use Rattle.ltl_syntax.specs.Table.{Table, tree_at, trees_of, made, IsFine, Pushes}
use Rattle.ltl_word.specs.declared.trace.Trace.{Trace}
use Rattle.ltl_word.specs.Holds.{Satisfies}
use Rattle.requirement_questions.specs.Trigger.{trigger_of, HasTrigger, always_child, condition_child}
use Rattle.requirement_questions.specs.Failure.{FailsFirst}

pub is_always : (node : Node) (a : ℕ) → always_child node ≡ Some a → node ≡ nodes.Unary one.Always a
is_always (nodes.Const b) a e = absurd (cc)
is_always (nodes.Letter n) a e = absurd (cc)
is_always (nodes.Fresh n) a e = absurd (cc)
is_always (nodes.Unary one.Always c) a e = let is : c ≡ a = cc in ap (nodes.Unary one.Always) is
is_always (nodes.Unary op c) a e = absurd (cc)
is_always (nodes.Binary op b c) a e = absurd (cc)

pub is_condition : (node : Node) (a : ℕ) → condition_child node ≡ Some a → (b : ℕ) × (node ≡ nodes.Binary two.Implies a b)
is_condition (nodes.Const b) a e = absurd (cc)
is_condition (nodes.Letter n) a e = absurd (cc)
is_condition (nodes.Fresh n) a e = absurd (cc)
is_condition (nodes.Unary op c) a e = absurd (cc)
is_condition (nodes.Binary two.Implies c d) a e = let is : c ≡ a = cc in (d, ap (λ x. nodes.Binary two.Implies x d) is)
is_condition (nodes.Binary op c d) a e = absurd (cc)

module _ (names : List (List ℕ)) (trees : List Formula) where
  pub no_trigger : (node : Node) → always_child node ≡ None → trigger_of (made names trees node) ≡ None
  no_trigger (nodes.Const b) e = refl
  no_trigger (nodes.Letter n) e = refl
  no_trigger (nodes.Fresh n) e = refl
  no_trigger (nodes.Unary one.Always c) e = absurd (cc)
  no_trigger (nodes.Unary op c) e = refl
  no_trigger (nodes.Binary op b c) e = refl

  pub no_condition : (node : Node) → condition_child node ≡ None → trigger_of (Unary one.Always (made names trees node)) ≡ None
  no_condition (nodes.Const b) e = refl
  no_condition (nodes.Letter n) e = refl
  no_condition (nodes.Fresh n) e = refl
  no_condition (nodes.Unary op c) e = refl
  no_condition (nodes.Binary two.Implies b c) e = absurd (cc)
  no_condition (nodes.Binary op b c) e = refl

  pub fails_at_once : (t : Trace) (node : Node) → always_child node ≡ None → ¬ Satisfies t (made names trees node) → FailsFirst t (made names trees node) 0
  fails_at_once t (nodes.Const b) e h = (refl, h)
  fails_at_once t (nodes.Letter n) e h = (refl, h)
  fails_at_once t (nodes.Fresh n) e h = (refl, h)
  fails_at_once t (nodes.Unary one.Always c) e h = absurd (cc)
  fails_at_once t (nodes.Unary op c) e h = (refl, h)
  fails_at_once t (nodes.Binary op b c) e h = (refl, h)

-- ---- the trigger of a tree of a table

pub has_trigger : (s : Table) (root body a b : ℕ) → tree_at s root ≡ made s.names (trees_of s) (nodes.Unary one.Always body)
    → tree_at s body ≡ made s.names (trees_of s) (nodes.Binary two.Implies a b)
    → trigger_of (tree_at s root) ≡ Some (Unary one.Eventually (tree_at s a))
has_trigger s root body a b always implies =
    let whole : tree_at s root ≡ Unary one.Always (Binary two.Implies (tree_at s a) (tree_at s b)) = always ∙ ap (Unary one.Always) implies in
    ap trigger_of whole

pub no_body : (s : Table) (root body : ℕ) (node : Node) → tree_at s root ≡ made s.names (trees_of s) (nodes.Unary one.Always body)
    → tree_at s body ≡ made s.names (trees_of s) node → condition_child node ≡ None
    → trigger_of (tree_at s root) ≡ None
no_body s root body node always tree none = ap trigger_of (always ∙ ap (Unary one.Always) tree) ∙ no_condition s.names (trees_of s) node none

-- `F` on top of a copy
pub eventually_on : (s middle t : Table) (number copy at : ℕ) → tree_at middle copy ≡ tree_at s number → (at ≡ length middle.nodes)
    → Pushes middle (nodes.Unary one.Eventually copy) t
    → (at < length t.nodes) × (tree_at t at ≡ Unary one.Eventually (tree_at s number))
eventually_on s middle t number copy at e is p =
    (subst (λ n. n < length t.nodes) (sym is) p.root.0, ap (tree_at t) is ∙ (p.tree ∙ ap (Unary one.Eventually) e))

-- what is found under the `G`
pub condition_found : (s : Table) (root body : ℕ) (node : Node) (r : Option ℕ) → body < length s.nodes
    → tree_at s root ≡ made s.names (trees_of s) (nodes.Unary one.Always body) → tree_at s body ≡ made s.names (trees_of s) node
    → IsFine (length s.names) body node → r ≡ condition_child node → HasTrigger s root r
condition_found s root body node None lt always tree fine e = no_body s root body node always tree (sym e)
condition_found s root body node (Some a) lt always tree fine e =
    let w = is_condition node a (sym e) in
    let low = subst (IsFine (length s.names) body) w.1 fine in
    (omega (arith, low.0, lt), has_trigger s root body a w.0 always (subst (λ n. tree_at s body ≡ made s.names (trees_of s) n) w.1 tree))
