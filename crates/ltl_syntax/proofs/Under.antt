-- The nodes under a root are those of its order, so it is known what their marks are and what their sizes add up to.
use Rattle.std.proofs.Common.{◌≡◌, ℕ, ◌+◌, ◌<◌, ◌≤◌, ◌==◌, inl, inr, subst, ap, arith, sym, refl, ◌∙◌, IsTrue, Bool, false, List, [], ◌++◌, length}
use Rattle.std.proofs.Common.{slice_get, Some, Contains, All, get_or, take}
use Rattle.std.specs.List.{sum_by}
use Rattle.std.proofs.lemmas.Bool.{eqb-true, or_cases}
use Rattle.std.proofs.lemmas.Option.{get_or_from_slice_get, slice_get_within}
use Rattle.std.proofs.lemmas.List.{take_more}
use Rattle.std.proofs.lemmas.List.Elements.{Contains-get_or}
use Rattle.std.proofs.lemmas.List.Sums.{sum_by-cons, sum_by-append, sum_by_push}
use Rattle.ltl_syntax.specs.declared.node.UnaryOp.{UnaryOp}
use Rattle.ltl_syntax.specs.declared.node.BinaryOp.{BinaryOp}
use Rattle.ltl_syntax.specs.declared.node.Node.{Node}
use Rattle.ltl_syntax.specs.declared.node.Node.TheVariants as nodes
use Rattle.ltl_syntax.specs.Formula.{Formula, Unary, Binary}
use Rattle.ltl_syntax.specs.Size.{node_size, formula_size}
use Rattle.ltl_syntax.specs.Table.{Table, made, trees_of, tree_at, has_child, IsFine, IsTable}
use Rattle.ltl_syntax.specs.Flat.{ordered, orders_of, order_at}
use Rattle.ltl_syntax.specs.Cutting.{AreMarked}
use Rattle.ltl_syntax.specs.Under.{IsUnder, Here, Below, AreMarksUnder, size_at}
use Rattle.ltl_syntax.proofs.Trees.{node_tree}
use Rattle.ltl_syntax.proofs.Orders.{first_in, child_in, in_cases, node_order, by_children}
use Rattle.ltl_syntax.proofs.Distinct.{child_before, order_low, among_from, among_to}

beneath : (t : Table) (root middle number : ℕ) → IsUnder t root middle → IsUnder t middle number → IsUnder t root number
beneath t root middle number up (Here n e) = subst (IsUnder t root) (sym e) up
beneath t root middle number up (Below parent n node down at child) = Below parent n node (beneath t root middle parent up down) at child

own_size : (t : Table) (k : ℕ) (node : Node) → slice_get t.nodes k ≡ Some node → size_at t k ≡ node_size node
own_size t k node e = ap node_size (get_or_from_slice_get t.nodes k node (nodes.Const false) e)

-- the size of one node more
pub size_more : (t : Table) (numbers : List ℕ) (k : ℕ) (node : Node) (sum size : ℕ) → k < length numbers → slice_get t.nodes (get_or numbers k 0) ≡ Some node
    → size ≡ node_size node → sum ≡ sum_by (size_at t) (take k numbers) → sum + size ≡ sum_by (size_at t) (take (k + 1) numbers)
size_more t numbers k node sum size low at is before =
    let more = ap (sum_by (size_at t)) (take_more numbers k 0 low) in
    omega (arith, more, sum_by_push (size_at t) (take k numbers) (get_or numbers k 0), own_size t (get_or numbers k 0) node at, is, before)

module _ (t : Table) (is : IsTable t.nodes t.names) where
  -- ---- they are the nodes of its order

  pub order_under : (k : ℕ) → k < length t.nodes → (x : ℕ) → Contains (order_at t k) x → IsUnder t k x
  order_under = by_children t is (λ k. (x : ℕ) → Contains (order_at t k) x → IsUnder t k x) (λ k node e fine all x c.
      elim (in_cases (orders_of t) k node x (subst (λ xs. Contains xs x) (node_order t is k node e) c)) [
        | inl same ↦ Here x (sym same)
        | inr w ↦ beneath t k w.0 x (Below k w.0 node (Here k refl) e w.1) (all w.0 (child_before t is k node e w.0 w.1) x w.2)
      ])

  first : (k : ℕ) → k < length t.nodes → Contains (order_at t k) k
  first = by_children t is (λ k. Contains (order_at t k) k)
      (λ k node e fine all. subst (λ xs. Contains xs k) (sym (node_order t is k node e)) (first_in (orders_of t) k node))

  abbrev IsClosed : ℕ → Type 0
  IsClosed k = (parent x : ℕ) (node : Node) → Contains (order_at t k) parent → slice_get t.nodes parent ≡ Some node → IsTrue (has_child x node)
      → Contains (order_at t k) x

  closed : (k : ℕ) → k < length t.nodes → IsClosed k
  closed = by_children t is IsClosed (λ k node e fine all parent x other c at child.
      subst (λ xs. Contains xs x) (sym (node_order t is k node e))
      (elim (in_cases (orders_of t) k node parent (subst (λ xs. Contains xs parent) (node_order t is k node e) c)) [
        | inl same ↦
            let here = subst (λ n. slice_get t.nodes n ≡ Some other) (sym same) at in
            let one : other ≡ node = cc in
            let is_child = subst (λ n. IsTrue (has_child x n)) one child in
            let before = child_before t is k node e x is_child in
            let within = slice_get_within t.nodes k node e in
            child_in (orders_of t) k node x x is_child (first x (omega arith))
        | inr w ↦ child_in (orders_of t) k node w.0 x w.1 (all w.0 (child_before t is k node e w.0 w.1) parent x other w.2 at child)
      ]))

  pub under_order : (root : ℕ) → root < length t.nodes → (x : ℕ) → IsUnder t root x → Contains (order_at t root) x
  under_order root there x (Here n e) = subst (Contains (order_at t root)) (sym e) (first root there)
  under_order root there x (Below parent n node up at child) = closed root there parent n node (under_order root there parent up) at child

  pub all_low : (root : ℕ) → root < length t.nodes → (order : List ℕ) → order ≡ order_at t root → All (λ number. number < root + 1) order
  all_low root there order same k d low =
      omega (arith, order_low t is root there (get_or order k d) (subst (λ xs. Contains xs (get_or order k d)) same (Contains-get_or order k d low)))

  pub under_low : (root : ℕ) → root < length t.nodes → (x : ℕ) → IsUnder t root x → x ≤ root
  under_low root there x under = order_low t is root there x (under_order root there x under)

  -- ---- the marks of its order

  pub order_marks : (root : ℕ) → root < length t.nodes → (order : List ℕ) (marks : List Bool) → order ≡ order_at t root → AreMarked order marks
      → AreMarksUnder t root marks
  order_marks root there order marks same marked x = (
    λ mark. order_under root there x (subst (λ xs. Contains xs x) same (among_to t is x order (sym (marked x) ∙ mark))),
    λ under. marked x ∙ among_from t is x order (subst (λ xs. Contains xs x) (sym same) (under_order root there x under)),
  )

  -- ---- the sizes add up to that of the tree

  size_step : (k : ℕ) (node : Node) → size_at t k ≡ node_size node → IsFine (length t.names) k node
      → ((j : ℕ) → j < k → sum_by (size_at t) (order_at t j) ≡ formula_size (tree_at t j))
      → sum_by (size_at t) (ordered (orders_of t) k node) ≡ formula_size (made t.names (trees_of t) node)
  size_step k (nodes.Const b) own fine all = omega (arith, sum_by-cons (size_at t) k [], own)
  size_step k (nodes.Letter n) own fine all = omega (arith, sum_by-cons (size_at t) k [], own)
  size_step k (nodes.Fresh n) own fine all = omega (arith, sum_by-cons (size_at t) k [], own)
  size_step k (nodes.Unary op a) own fine all = omega (arith, sum_by-cons (size_at t) k (order_at t a), own, all a fine)
  size_step k (nodes.Binary op a b) own fine all =
      let left = all a fine.0 in
      let right = all b fine.1 in
      let both = sum_by-append (size_at t) (order_at t a) (order_at t b) in
      omega (arith, sum_by-cons (size_at t) k (order_at t a ++ order_at t b), both, own, left, right)

  pub order_size : (k : ℕ) → k < length t.nodes → sum_by (size_at t) (order_at t k) ≡ formula_size (tree_at t k)
  order_size = by_children t is (λ k. sum_by (size_at t) (order_at t k) ≡ formula_size (tree_at t k)) (λ k node e fine all.
      ap (sum_by (size_at t)) (node_order t is k node e)
      ∙ (size_step k node (own_size t k node e) fine all ∙ sym (ap formula_size (node_tree t is k node e))))

  -- ---- what operands have from an operator each node under a root has from it

  module _ (P : Formula → Type 0) (one : (op : UnaryOp) (f : Formula) → P (Unary op f) → P f)
      (two : (op : BinaryOp) (f g : Formula) → P (Binary op f g) → P f × P g) where
    child_has : (node : Node) (child : ℕ) → IsTrue (has_child child node) → P (made t.names (trees_of t) node) → P (tree_at t child)
    child_has (nodes.Const b) child has p = absurd (cc)
    child_has (nodes.Letter n) child has p = absurd (cc)
    child_has (nodes.Fresh n) child has p = absurd (cc)
    child_has (nodes.Unary op a) child has p = subst (λ n. P (tree_at t n)) (eqb-true a child has) (one op (tree_at t a) p)
    child_has (nodes.Binary op a b) child has p =
        let both = two op (tree_at t a) (tree_at t b) p in
        elim (or_cases (a == child) (b == child) has) [
          | inl l ↦ subst (λ n. P (tree_at t n)) (eqb-true a child l) both.0
          | inr r ↦ subst (λ n. P (tree_at t n)) (eqb-true b child r) both.1
        ]

    pub under_has : (root number : ℕ) → P (tree_at t root) → IsUnder t root number → P (tree_at t number)
    under_has root number p (Here n e) = subst (λ m. P (tree_at t m)) (sym e) p
    under_has root number p (Below parent n node up at child) =
        child_has node n child (subst P (node_tree t is parent node at) (under_has root parent p up))
