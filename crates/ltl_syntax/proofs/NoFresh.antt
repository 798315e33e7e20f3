-- A formula has no fresh letter exactly where no node under its root is one.
use Rattle.std.proofs.Common.{inl, inr, ◌≤◌, ◌≡◌, ℕ, suc, ◌+◌, ◌-◌, ◌<◌, true, false, List, [], ◌∷◌, ◌++◌, length, get_or, slice_get, Some, All, subst, ap, ◌∙◌}
use Rattle.std.proofs.Common.{sym, refl, arith}
use Rattle.std.proofs.lemmas.Bool.{cases_lt}
use Rattle.std.proofs.lemmas.List.{length-append, get_or_append_left, get_or-append_right, get_or_default}
use Rattle.std.proofs.lemmas.List.Elements.{All-append, All-cons, All-nil}
use Rattle.ltl_syntax.specs.declared.node.Node.{Node}
use Rattle.ltl_syntax.specs.declared.node.Node.TheVariants as nodes
use Rattle.ltl_syntax.specs.Formula.{HasNoFresh}
use Rattle.ltl_syntax.specs.Table.{Table, made, trees_of, tree_at, IsFine, IsTable}
use Rattle.ltl_syntax.specs.Flat.{is_fresh, ordered, orders_of, order_at}
use Rattle.ltl_syntax.proofs.Trees.{node_tree}
use Rattle.ltl_syntax.proofs.Orders.{by_children, node_order}

get_or_after : (xs ys : List ℕ) (i d : ℕ) → get_or (xs ++ ys) (length xs + i) d ≡ get_or ys i d
get_or_after xs ys i d =
    let same : length xs + i - length xs ≡ i = omega arith in
    get_or-append_right xs ys (length xs) (length xs + i) d refl (omega arith) ∙ ap (λ n. get_or ys n d) same

-- the node of the number is no fresh letter
abbrev pub IsNamed : Table → ℕ → Type 0
IsNamed t number = (node : Node) → slice_get t.nodes number ≡ Some node → is_fresh node ≡ false

here : (t : Table) (number : ℕ) (node : Node) → slice_get t.nodes number ≡ Some node → is_fresh node ≡ false → IsNamed t number
here t number node e plain other e' = let same : node ≡ other = cc in subst (λ n. is_fresh n ≡ false) same plain

module _ (t : Table) (is : IsTable t.nodes t.names) where
  one : (number : ℕ) → IsNamed t number → All (IsNamed t) (number ∷ [])
  one number named = All-cons (IsNamed t) number [] named (All-nil (IsNamed t))

  -- the nodes of a formula without fresh letters are named
  named_step : (k : ℕ) (node : Node) → slice_get t.nodes k ≡ Some node → IsFine (length t.names) k node
      → ((j : ℕ) → j < k → HasNoFresh (tree_at t j) → All (IsNamed t) (order_at t j))
      → HasNoFresh (made t.names (trees_of t) node) → All (IsNamed t) (ordered (orders_of t) k node)
  named_step k (nodes.Const b) e fine all none = one k (here t k (nodes.Const b) e refl)
  named_step k (nodes.Letter n) e fine all none = one k (here t k (nodes.Letter n) e refl)
  named_step k (nodes.Fresh n) e fine all none = absurd none
  named_step k (nodes.Unary op a) e fine all none = All-cons (IsNamed t) k (order_at t a) (here t k (nodes.Unary op a) e refl) (all a fine none)
  named_step k (nodes.Binary op a b) e fine all none =
      All-cons (IsNamed t) k (order_at t a ++ order_at t b) (here t k (nodes.Binary op a b) e refl)
      (All-append (IsNamed t) (order_at t a) (order_at t b) (all a fine.0 none.0) (all b fine.1 none.1))

  pub named : (k : ℕ) → k < length t.nodes → HasNoFresh (tree_at t k) → All (IsNamed t) (order_at t k)
  named = by_children t is (λ k. HasNoFresh (tree_at t k) → All (IsNamed t) (order_at t k)) (λ k node e fine all none.
      subst (All (IsNamed t)) (sym (node_order t is k node e)) (named_step k node e fine all (subst HasNoFresh (node_tree t is k node e) none)))

  -- and where they are, it has none
  tail : (x : ℕ) (xs : List ℕ) → All (IsNamed t) (x ∷ xs) → All (IsNamed t) xs
  tail x xs all i d lt = all (suc i) d (omega arith)

  left : (xs ys : List ℕ) → All (IsNamed t) (xs ++ ys) → All (IsNamed t) xs
  left xs ys all i d lt = subst (IsNamed t) (get_or_append_left xs ys d i lt) (all i d (omega (arith, length-append xs ys)))

  right : (xs ys : List ℕ) → All (IsNamed t) (xs ++ ys) → All (IsNamed t) ys
  right xs ys all i d lt = subst (IsNamed t) (get_or_after xs ys i d) (all (length xs + i) d (omega (arith, length-append xs ys)))

  none_step : (k : ℕ) (node : Node) → slice_get t.nodes k ≡ Some node → IsFine (length t.names) k node
      → ((j : ℕ) → j < k → All (IsNamed t) (order_at t j) → HasNoFresh (tree_at t j))
      → All (IsNamed t) (ordered (orders_of t) k node) → HasNoFresh (made t.names (trees_of t) node)
  none_step k (nodes.Const b) e fine all named = tt
  none_step k (nodes.Letter n) e fine all named = tt
  none_step k (nodes.Fresh n) e fine all named = let plain = named 0 0 (omega arith) (nodes.Fresh n) e in cc
  none_step k (nodes.Unary op a) e fine all named = all a fine (tail k (order_at t a) named)
  none_step k (nodes.Binary op a b) e fine all named =
      let both = tail k (order_at t a ++ order_at t b) named in
      (all a fine.0 (left (order_at t a) (order_at t b) both), all b fine.1 (right (order_at t a) (order_at t b) both))

  pub none : (k : ℕ) → k < length t.nodes → All (IsNamed t) (order_at t k) → HasNoFresh (tree_at t k)
  none = by_children t is (λ k. All (IsNamed t) (order_at t k) → HasNoFresh (tree_at t k)) (λ k node e fine all named.
      subst HasNoFresh (sym (node_tree t is k node e)) (none_step k node e fine all (subst (All (IsNamed t)) (node_order t is k node e) named)))

-- the nodes of the order of a root before a place are named
abbrev pub AreNamedBefore : Table → List ℕ → ℕ → Type 0
AreNamedBefore t order place = (i : ℕ) → i < place → IsNamed t (get_or order i 0)

module _ (t : Table) (is : IsTable t.nodes t.names) (root place : ℕ) (order : List ℕ) (low : root < length t.nodes) (same : order ≡ order_at t root) where
  -- one more
  pub named_on : (node : Node) (number : ℕ) → number ≡ get_or order place 0 → slice_get t.nodes number ≡ Some node
      → is_fresh node ≡ false → AreNamedBefore t order place → AreNamedBefore t order (place + 1)
  named_on node number at e plain before = λ i lt. elim (cases_lt i place) [
    | inl old ↦ before i old
    | inr new ↦ let here' : i ≡ place = omega arith in rw (here', ← at) (here t number node e plain)
  ]

  -- all
  pub all_named : AreNamedBefore t order place → length order ≤ place → HasNoFresh (tree_at t root)
  all_named before end = none t is root low (subst (All (IsNamed t)) same (λ i d lt. rw (get_or_default order i d 0 lt) (before i (omega arith))))

  -- one is fresh
  pub is_not : (node : Node) (number : ℕ) → number ≡ get_or order place 0 → place < length order → slice_get t.nodes number ≡ Some node
      → is_fresh node ≡ true → HasNoFresh (tree_at t root) → ⊥
  is_not node number at lt e fresh free =
      let all = subst (All (IsNamed t)) (sym same) (named t is root low free) in
      let plain = all place 0 lt node (rw (← at) e) in cc
