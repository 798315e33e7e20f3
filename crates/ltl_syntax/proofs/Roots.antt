-- A node that was just pushed is a root, and so are the roots that are not its children.
use Rattle.std.proofs.Common.{◌≡◌, ℕ, ◌+◌, ◌<◌, ◌≤◌, Bool, true, false, not, ◌||◌, ◌&&◌, ◌==◌, List, [], ◌∷◌, ◌++◌, length, get_or, refl, sym, ◌∙◌, ap, ap₂}
use Rattle.std.proofs.Common.{arith, length-append, ◌⊎◌, inl, inr}
use Rattle.std.proofs.lemmas.Bool.{cases_lt}
use Rattle.std.proofs.Math.ListN.{get_or-append}
use Rattle.std.proofs.Math.Seq.{get_or-append_seam}
use Rattle.std.specs.List.{list_any}
use Rattle.std.proofs.lemmas.Bool.Decides.{nat_tests}
use Rattle.std.proofs.lemmas.List.Folds.{list_any-append}
use Rattle.ltl_syntax.specs.declared.node.Node.{Node}
use Rattle.ltl_syntax.specs.declared.node.Node.TheVariants as nodes
use Rattle.ltl_syntax.specs.Table.{Table, has_child, MayFollow, IsRoot, IsFine, AreFine, IsTable, Pushes}
use Rattle.ltl_syntax.specs.Roots.{AreRootFlags}
use Rattle.ltl_syntax.proofs.Tables.{fine_node, tree_pushed, others_pushed}

less : (a k : ℕ) → a < k → (a == k) ≡ false
less a k h = grind (arith, nat_tests)

node_above : (m place : ℕ) (n : Node) (k : ℕ) → IsFine m place n → place ≤ k → has_child k n ≡ false
node_above m place (nodes.Unary op a) k f le = less a k (omega arith)
node_above m place (nodes.Binary op a b) k f le = ap₂ (λ p q. p || q) (less a k (omega arith)) (less b k (omega arith))
node_above m place other k f le = refl

fine_above : (m place : ℕ) (ns : List Node) (k : ℕ) → AreFine m place ns → place + length ns ≤ k → list_any (has_child k) ns ≡ false
fine_above m place [] k f le = refl
fine_above m place (n ∷ ns) k f le = ap₂ (λ p q. p || q) (node_above m place n k f.0 (omega arith)) (fine_above m (place + 1) ns k f.1 (omega arith))

pub root_pushed : (t : Table) (node : Node) → IsTable t.nodes t.names → MayFollow t node
    → IsRoot (record { nodes = t.nodes ++ node ∷ []; names = t.names }) (length t.nodes)
root_pushed t node is may = (
  omega (arith, length-append t.nodes (node ∷ [])),
  list_any-append (has_child (length t.nodes)) t.nodes (node ∷ [])
      ∙ ap₂ (λ p q. p || q) (fine_above (length t.names) 0 t.nodes (length t.nodes) is.fine (omega arith))
      (ap (λ p. p || false) (node_above (length t.names) (length t.nodes) node (length t.nodes) (fine_node t node may) (omega arith))),
)

roots_pushed : (t : Table) (node : Node) (number : ℕ) → IsRoot t number
    → has_child number node ≡ false → IsRoot (record { nodes = t.nodes ++ node ∷ []; names = t.names }) number
roots_pushed t node number root none = (
  omega (arith, root.0, length-append t.nodes (node ∷ [])),
  list_any-append (has_child number) t.nodes (node ∷ []) ∙ ap₂ (λ p q. p || q) root.1 (ap (λ p. p || false) none),
)

pub pushes : (t : Table) (node : Node) → IsTable t.nodes t.names → MayFollow t node → Pushes t node (record { nodes = t.nodes ++ node ∷ []; names = t.names })
pushes t node is may = record {
  nodes = refl;
  names = refl;
  tree = tree_pushed t node;
  others = others_pushed t node;
  root = root_pushed t node is may;
  roots = roots_pushed t node;
}

both_not : (a b : Bool) → (not a && not b) ≡ not (a || (b || false))
both_not true true = refl
both_not true false = refl
both_not false true = refl
both_not false false = refl

-- the flags with one that is true for the new node, and those of its children taken down
pub flags_pushed : (t : Table) (node : Node) (flags after : List Bool) → IsTable t.nodes t.names → MayFollow t node → AreRootFlags t.nodes flags
    → length after ≡ length (flags ++ true ∷ [])
    → ((i : ℕ) → get_or after i false ≡ (get_or (flags ++ true ∷ []) i false && not (has_child i node)))
    → AreRootFlags (t.nodes ++ node ∷ []) after
flags_pushed t node flags after is may were count each = record {
  count = omega (arith, count, were.count, length-append t.nodes (node ∷ []), length-append flags (true ∷ []));
  each = λ i h. at i (cases_lt i (length t.nodes)) h;
} where
  at : (i : ℕ) → (i < length t.nodes) ⊎ (length t.nodes ≤ i) → i < length (t.nodes ++ node ∷ [])
      → get_or after i false ≡ not (list_any (has_child i) (t.nodes ++ node ∷ []))
  at i (inl lt) h =
      let within : i < length flags = rw were.count lt in
      each i
      ∙ ap (λ b. b && not (has_child i node)) (get_or-append flags (true ∷ []) false i within ∙ were.each i lt)
      ∙ both_not (list_any (has_child i) t.nodes) (has_child i node)
      ∙ ap not (sym (list_any-append (has_child i) t.nodes (node ∷ [])))
  at i (inr le) h =
      let e : i ≡ length flags = omega (arith, were.count, length-append t.nodes (node ∷ [])) in
      let above : list_any (has_child i) t.nodes ≡ false = fine_above (length t.names) 0 t.nodes i is.fine (omega arith) in
      each i
      ∙ ap (λ b. b && not (has_child i node)) (ap (λ k. get_or (flags ++ true ∷ []) k false) e ∙ get_or-append_seam flags true [] false)
      ∙ ap (λ b. not b && not (has_child i node)) (sym above)
      ∙ both_not (list_any (has_child i) t.nodes) (has_child i node)
      ∙ ap not (sym (list_any-append (has_child i) t.nodes (node ∷ [])))
