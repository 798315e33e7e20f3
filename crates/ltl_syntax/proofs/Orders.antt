-- The nodes of a table in the order of their places: as many as the tree has nodes, each standing for the formula at its place.
use Rattle.std.proofs.Common.{◌≡◌, ℕ, zero, suc, ◌+◌, ◌-◌, ◌<◌, ◌≤◌, inl, inr, subst, ap, ap₂, arith, sym, refl, ◌∙◌, List, [], ◌∷◌, ◌++◌, length, get_or}
use Rattle.std.proofs.Common.{slice_get, Some, lt-ltb, le-ltb, ◌⊎◌, ◌==◌, IsTrue, Contains, eq-eqb}
use Rattle.std.proofs.Math.ListN.{get_or-append}
use Rattle.std.proofs.Math.Seq.{get_or-append_seam, get_or-append_right}
use Rattle.std.proofs.lemmas.Bool.{cases_lt, cond-true, cond-false, eqb-true, or_cases, or_left, or_right}
use Rattle.std.proofs.lemmas.Option.{slice_get_within}
use Rattle.std.proofs.lemmas.List.{length-append}
use Rattle.std.proofs.lemmas.List.Elements.{Contains-append_left, Contains-append_right, Contains-append_cases}
use Rattle.ltl_syntax.specs.declared.node.Node.{Node}
use Rattle.ltl_syntax.specs.declared.node.Node.TheVariants as nodes
use Rattle.ltl_syntax.specs.Formula.{Fresh, Formula, Const, Letter, Unary, Binary, nodes_in}
use Rattle.ltl_syntax.specs.Table.{Table, made, trees_of, tree_at, has_child, IsFine, AreFine, IsTable}
use Rattle.ltl_syntax.specs.Replacement.{part_at}
use Rattle.ltl_syntax.proofs.Members.{Contains-here, Contains-there, Contains-cons_cases, Contains-nil}
use Rattle.ltl_syntax.proofs.Trees.{node_tree, node_fine}
use Rattle.ltl_syntax.specs.Flat.{order_among, ordered, orders_after, orders_of, order_at, node_at}

-- ---- the order of a node, from those of its children

ordered_same : (m place : ℕ) (old new : List (List ℕ)) → ((i : ℕ) → i < place → order_among new i ≡ order_among old i) → (number : ℕ) (node : Node)
    → IsFine m place node → ordered new number node ≡ ordered old number node
ordered_same m place old new same number (nodes.Unary op a) f = ap (λ xs. number ∷ xs) (same a f)
ordered_same m place old new same number (nodes.Binary op a b) f = ap₂ (λ xs ys. number ∷ (xs ++ ys)) (same a f.0) (same b f.1)
ordered_same m place old new same number other f = refl

kept : (orders : List (List ℕ)) (ns : List Node) (i : ℕ) → i < length orders → order_among (orders_after orders ns) i ≡ order_among orders i
kept orders [] i h = refl
kept orders (n ∷ ns) i h =
    kept (orders ++ ordered orders (length orders) n ∷ []) ns i (omega (arith, length-append orders (ordered orders (length orders) n ∷ [])))
    ∙ get_or-append orders (ordered orders (length orders) n ∷ []) [] i h

order_after : (m : ℕ) (orders : List (List ℕ)) (ns : List Node) → AreFine m (length orders) ns → (k : ℕ) (node : Node) → slice_get ns k ≡ Some node
    → order_among (orders_after orders ns) (length orders + k) ≡ ordered (orders_after orders ns) (length orders + k) node
order_after m orders [] f k node e = absurd (cc)
order_after m orders (n ∷ ns) f zero node e =
    let at : order_among (orders_after orders (n ∷ ns)) (length orders) ≡ ordered orders (length orders) n =
    kept (orders ++ ordered orders (length orders) n ∷ []) ns (length orders) (omega (arith, length-append orders (ordered orders (length orders) n ∷ [])))
    ∙ get_or-append_seam orders (ordered orders (length orders) n) [] [] in
    let is : n ≡ node = cc in
    let zeroth : length orders + 0 ≡ length orders = omega arith in
    rw (zeroth, ← is) (at ∙ sym (ordered_same m (length orders) orders (orders_after orders (n ∷ ns)) (kept orders (n ∷ ns)) (length orders) n f.0))
order_after m orders (n ∷ ns) f (suc k) node e =
    let longer : length (orders ++ ordered orders (length orders) n ∷ []) ≡ length orders + 1 = length-append orders (ordered orders (length orders) n ∷ []) in
    let fine : AreFine m (length (orders ++ ordered orders (length orders) n ∷ [])) ns = subst (λ p. AreFine m p ns) (sym longer) f.1 in
    let moved : length (orders ++ ordered orders (length orders) n ∷ []) + k ≡ length orders + suc k = omega arith in
    rw (← moved) (order_after m (orders ++ ordered orders (length orders) n ∷ []) ns fine k node e)

node_there : (ns : List Node) (k : ℕ) → k < length ns → (node : Node) × (slice_get ns k ≡ Some node)
node_there [] k lt = absurd (omega arith)
node_there (n ∷ ns) zero lt = (n, refl)
node_there (n ∷ ns) (suc k) lt = node_there ns k (omega arith)

-- ---- what is in the order of a node: the node, and what is in the orders of its children

module _ (orders : List (List ℕ)) (k : ℕ) where
  pub first_in : (node : Node) → Contains (ordered orders k node) k
  first_in (nodes.Unary op a) = Contains-here k (order_among orders a)
  first_in (nodes.Binary op a b) = Contains-here k (order_among orders a ++ order_among orders b)
  first_in other = Contains-here k []

  pub child_in : (node : Node) (child x : ℕ) → IsTrue (has_child child node) → Contains (order_among orders child) x → Contains (ordered orders k node) x
  child_in (nodes.Const b) child x h c = absurd (cc)
  child_in (nodes.Letter n) child x h c = absurd (cc)
  child_in (nodes.Fresh n) child x h c = absurd (cc)
  child_in (nodes.Unary op a) child x h c =
      Contains-there k (order_among orders a) x (subst (λ j. Contains (order_among orders j) x) (sym (eqb-true a child h)) c)
  child_in (nodes.Binary op a b) child x h c =
      Contains-there k (order_among orders a ++ order_among orders b) x (elim (or_cases (a == child) (b == child) h) [
        | inl l ↦ Contains-append_left (order_among orders a) (order_among orders b) x
            (subst (λ j. Contains (order_among orders j) x) (sym (eqb-true a child l)) c)
        | inr r ↦ Contains-append_right (order_among orders a) (order_among orders b) x
            (subst (λ j. Contains (order_among orders j) x) (sym (eqb-true b child r)) c)
      ])

  -- it is in the order of a child
  abbrev pub IsInChild : Node → ℕ → Type 0
  IsInChild node x = (child : ℕ) × IsTrue (has_child child node) × Contains (order_among orders child) x

  alone : (node : Node) (x : ℕ) → Contains (k ∷ []) x → (k ≡ x) ⊎ IsInChild node x
  alone node x c = elim (Contains-cons_cases k [] x c) [ inl e ↦ inl e | inr d ↦ absurd (Contains-nil x d) ]

  pub in_cases : (node : Node) (x : ℕ) → Contains (ordered orders k node) x → (k ≡ x) ⊎ IsInChild node x
  in_cases (nodes.Const b) x c = alone (nodes.Const b) x c
  in_cases (nodes.Letter n) x c = alone (nodes.Letter n) x c
  in_cases (nodes.Fresh n) x c = alone (nodes.Fresh n) x c
  in_cases (nodes.Unary op a) x c = elim (Contains-cons_cases k (order_among orders a) x c) [ inl e ↦ inl e | inr d ↦ inr (a, eq-eqb a a refl, d) ]
  in_cases (nodes.Binary op a b) x c = elim (Contains-cons_cases k (order_among orders a ++ order_among orders b) x c) [
    | inl e ↦ inl e
    | inr d ↦ elim (Contains-append_cases (order_among orders a) (order_among orders b) x d) [
      | inl l ↦ inr (a, or_left (a == a) (b == a) (eq-eqb a a refl), l)
      | inr r ↦ inr (b, or_right (a == b) (b == b) (eq-eqb b b refl), r)
    ]
  ]

-- ---- a table

module _ (t : Table) (is : IsTable t.nodes t.names) where
  pub node_order : (number : ℕ) (node : Node) → slice_get t.nodes number ≡ Some node → order_at t number ≡ ordered (orders_of t) number node
  unfolding orders_of
  node_order number node e =
      let zeroth : 0 + number ≡ number = omega arith in
      rw zeroth at (order_after (length t.names) [] t.nodes is.fine number node e)

  -- what holds of a node where it holds of its children holds of all
  module _ (C : ℕ → Type 0)
      (step : (k : ℕ) (node : Node) → slice_get t.nodes k ≡ Some node → IsFine (length t.names) k node → ((j : ℕ) → j < k → C j) → C k) where
    up_to : (fuel k : ℕ) → k < fuel → k < length t.nodes → C k
    up_to zero k lt low = absurd (omega arith)
    up_to (suc fuel) k lt low =
        let w = node_there t.nodes k low in
        step k w.0 w.1 (node_fine t is k w.0 w.1) (λ j lt'. up_to fuel j (omega arith) (omega arith))

    pub by_children : (k : ℕ) → k < length t.nodes → C k
    by_children k low = up_to (suc k) k (omega arith) low

  -- ---- as many as nodes of the tree, each at its place

  abbrev IsLong : ℕ → Type 0
  IsLong k = length (order_at t k) ≡ nodes_in (tree_at t k)

  abbrev HasLength : List ℕ → Formula → Type 0
  HasLength xs f = length xs ≡ nodes_in f

  long_step : (k : ℕ) (node : Node) → IsFine (length t.names) k node → ((j : ℕ) → j < k → IsLong j)
      → HasLength (ordered (orders_of t) k node) (made t.names (trees_of t) node)
  long_step k (nodes.Const b) fine all = refl
  long_step k (nodes.Letter n) fine all = refl
  long_step k (nodes.Fresh n) fine all = refl
  long_step k (nodes.Unary op a) fine all = let i = all a fine in omega arith
  long_step k (nodes.Binary op a b) fine all =
      let i = all a fine.0 in
      let j = all b fine.1 in
      let e = length-append (order_at t a) (order_at t b) in omega arith

  pub order_long : (k : ℕ) → k < length t.nodes → length (order_at t k) ≡ nodes_in (tree_at t k)
  order_long =
      by_children IsLong (λ k node e fine all. ap length (node_order k node e) ∙ (long_step k node fine all ∙ sym (ap nodes_in (node_tree t is k node e))))

  -- ---- each node stands for the formula at its place

  abbrev Placed : List ℕ → Formula → Type 0
  Placed xs f = (n : ℕ) → n < length xs → tree_at t (get_or xs n 0) ≡ part_at f n

  abbrev IsPlaced : ℕ → Type 0
  IsPlaced k = Placed (order_at t k) (tree_at t k)

  placed_leaf : (k : ℕ) (f : Formula) → tree_at t k ≡ f → Placed (k ∷ []) f
  placed_leaf k f e zero lt = e
  placed_leaf k f e (suc n) lt = absurd (omega arith)

  placed_step : (k : ℕ) (node : Node) → slice_get t.nodes k ≡ Some node → IsFine (length t.names) k node → ((j : ℕ) → j < k → IsPlaced j)
      → Placed (ordered (orders_of t) k node) (made t.names (trees_of t) node)
  placed_step k (nodes.Const b) e fine all = placed_leaf k (Const b) (node_tree t is k (nodes.Const b) e)
  placed_step k (nodes.Letter n) e fine all = placed_leaf k (made t.names (trees_of t) (nodes.Letter n)) (node_tree t is k (nodes.Letter n) e)
  placed_step k (nodes.Fresh n) e fine all = placed_leaf k (Letter (Fresh n)) (node_tree t is k (nodes.Fresh n) e)
  placed_step k (nodes.Unary op a) e fine all = by where
    by : Placed (k ∷ order_at t a) (Unary op (tree_at t a))
    by zero lt = node_tree t is k (nodes.Unary op a) e
    by (suc n) lt = all a fine n (omega arith)
  placed_step k (nodes.Binary op a b) e fine all = by where
    long : length (order_at t a) ≡ nodes_in (tree_at t a)
    long = let low = slice_get_within t.nodes k (nodes.Binary op a b) e in let lt = fine.0 in order_long a (omega arith)

    by : Placed (k ∷ (order_at t a ++ order_at t b)) (Binary op (tree_at t a) (tree_at t b))
    by zero lt = node_tree t is k (nodes.Binary op a b) e
    by (suc n) lt = elim (cases_lt n (length (order_at t a))) [
      | inl before ↦
          let within : n < nodes_in (tree_at t a) = subst (λ m. n < m) long before in
          ap (tree_at t) (get_or-append (order_at t a) (order_at t b) 0 n before)
          ∙ (all a fine.0 n before ∙ sym (cond-true _ _ _ (lt-ltb n (nodes_in (tree_at t a)) within)))
      | inr after ↦
          let beyond : nodes_in (tree_at t a) ≤ n = subst (λ m. m ≤ n) long after in
          let e' = length-append (order_at t a) (order_at t b) in
          ap (tree_at t) (get_or-append_right (order_at t a) (order_at t b) n 0 after)
          ∙ (all b fine.1 (n - length (order_at t a)) (omega arith)
          ∙ (ap (λ m. part_at (tree_at t b) (n - m)) long ∙ sym (cond-false _ _ _ (le-ltb n (nodes_in (tree_at t a)) beyond))))
    ]

  pub order_part : (k : ℕ) → k < length t.nodes → (n : ℕ) → n < length (order_at t k) → tree_at t (node_at t k n) ≡ part_at (tree_at t k) n
  order_part = by_children IsPlaced (λ k node e fine all.
      subst (λ f. Placed (order_at t k) f) (sym (node_tree t is k node e))
      (subst (λ xs. Placed xs (made t.names (trees_of t) node)) (sym (node_order k node e)) (placed_step k node e fine all)))
