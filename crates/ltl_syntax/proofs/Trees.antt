-- How the trees of a table's nodes go on when a node or a name is added.
use Rattle.std.proofs.Common.{◌≡◌, ℕ, zero, suc, ◌+◌, ◌<◌, false, List, [], ◌∷◌, ◌++◌, length, Some, refl, sym, ◌∙◌, ap, subst, arith, length-append, slice_get}
use Rattle.std.proofs.Math.ListN.{get_or-append}
use Rattle.std.proofs.Math.Seq.{get_or-append_seam}
use Rattle.ltl_syntax.specs.declared.node.Node.{Node}
use Rattle.ltl_syntax.specs.declared.node.Node.TheVariants as nodes
use Rattle.ltl_syntax.specs.Formula.{Formula, Const, Unary}
use Rattle.ltl_syntax.specs.Table.{Table, tree_among, made, trees_after, trees_of, tree_at, IsFine, AreFine, IsTable}

-- a node makes the same tree where the trees before its place are the same
made_same : (names : List (List ℕ)) (m place : ℕ) (old new : List Formula) → ((i : ℕ) → i < place → tree_among new i ≡ tree_among old i) → (node : Node)
    → IsFine m place node → made names new node ≡ made names old node
made_same names m place old new same (nodes.Unary op a) f = ap (Unary op) (same a f)
made_same names m place old new same (nodes.Binary op a b) f = rw (same a f.0, same b f.1) refl
made_same names m place old new same other f = refl

-- the trees that are there stay at their places
pub kept : (names : List (List ℕ)) (trees : List Formula) (ns : List Node) (i : ℕ) → i < length trees
    → tree_among (trees_after names trees ns) i ≡ tree_among trees i
kept names trees [] i h = refl
kept names trees (n ∷ ns) i h =
    kept names (trees ++ made names trees n ∷ []) ns i (omega (arith, length-append trees (made names trees n ∷ [])))
    ∙ get_or-append trees (made names trees n ∷ []) (Const false) i h

-- the tree at a node's place is what it makes of all the trees
pub tree_after : (names : List (List ℕ)) (m : ℕ) (trees : List Formula) (ns : List Node) → AreFine m (length trees) ns → (k : ℕ) (node : Node)
    → slice_get ns k ≡ Some node
    → tree_among (trees_after names trees ns) (length trees + k) ≡ made names (trees_after names trees ns) node
tree_after names m trees [] f k node e = absurd (cc)
tree_after names m trees (n ∷ ns) f zero node e =
    let at : tree_among (trees_after names trees (n ∷ ns)) (length trees) ≡ made names trees n =
    kept names (trees ++ made names trees n ∷ []) ns (length trees) (omega (arith, length-append trees (made names trees n ∷ [])))
    ∙ get_or-append_seam trees (made names trees n) [] (Const false) in
    let is : n ≡ node = cc in
    let zeroth : length trees + 0 ≡ length trees = omega arith in
    rw (zeroth, ← is) (at ∙ sym (made_same names m (length trees) trees (trees_after names trees (n ∷ ns)) (kept names trees (n ∷ ns)) n f.0))
tree_after names m trees (n ∷ ns) f (suc k) node e =
    let longer : length (trees ++ made names trees n ∷ []) ≡ length trees + 1 = length-append trees (made names trees n ∷ []) in
    let fine : AreFine m (length (trees ++ made names trees n ∷ [])) ns = subst (λ p. AreFine m p ns) (sym longer) f.1 in
    let moved : length (trees ++ made names trees n ∷ []) + k ≡ length trees + suc k = omega arith in
    rw (← moved) (tree_after names m (trees ++ made names trees n ∷ []) ns fine k node e)

-- the trees of one node more
pub trees_after-push : (names : List (List ℕ)) (trees : List Formula) (ns : List Node) (n : Node)
    → trees_after names trees (ns ++ n ∷ []) ≡ trees_after names trees ns ++ made names (trees_after names trees ns) n ∷ []
trees_after-push names trees [] n = refl
trees_after-push names trees (x ∷ ns) n = trees_after-push names (trees ++ made names trees x ∷ []) ns n

pub length-trees_after : (names : List (List ℕ)) (trees : List Formula) (ns : List Node) → length (trees_after names trees ns) ≡ length trees + length ns
length-trees_after names trees [] = omega arith
length-trees_after names trees (n ∷ ns) =
    length-trees_after names (trees ++ made names trees n ∷ []) ns ∙ omega (arith, length-append trees (made names trees n ∷ []))

-- each node is fine at its place
pub fine_at : (m place : ℕ) (ns : List Node) → AreFine m place ns → (k : ℕ) (node : Node) → slice_get ns k ≡ Some node → IsFine m (place + k) node
fine_at m place [] f k node e = absurd (cc)
fine_at m place (n ∷ ns) f zero node e =
    let is : n ≡ node = cc in
    let zeroth : place + 0 ≡ place = omega arith in
    rw (zeroth, ← is) f.0
fine_at m place (n ∷ ns) f (suc k) node e =
    let moved : place + 1 + k ≡ place + suc k = omega arith in
    rw (← moved) (fine_at m (place + 1) ns f.1 k node e)

-- the laws of a table as a whole
pub node_tree : (t : Table) → IsTable t.nodes t.names → (number : ℕ) (node : Node) → slice_get t.nodes number ≡ Some node
    → tree_at t number ≡ made t.names (trees_of t) node
unfolding trees_of
node_tree t is number node e =
    let zeroth : 0 + number ≡ number = omega arith in
    rw zeroth at (tree_after t.names (length t.names) [] t.nodes is.fine number node e)

pub node_fine : (t : Table) → IsTable t.nodes t.names → (number : ℕ) (node : Node) → slice_get t.nodes number ≡ Some node → IsFine (length t.names) number node
node_fine t is number node e =
    let zeroth : 0 + number ≡ number = omega arith in
    rw zeroth at (fine_at (length t.names) 0 t.nodes is.fine number node e)
