-- No node of a table stands at two places, since no node is the child of two.
use Rattle.std.proofs.Common.{◌≡◌, ℕ, zero, suc, ◌+◌, ◌-◌, ◌<◌, ◌≤◌, ◌⊎◌, inl, inr, subst, ap, arith, sym, refl, ◌∙◌, Bool, true, false, ◌==◌, ◌↔◌, ltb, lt-ltb}
use Rattle.std.proofs.Common.{cond, IsTrue, List, [], ◌∷◌, ◌++◌, length, get_or, slice_get, Some, drop, length-drop, Contains, eq-eqb}
use Rattle.std.specs.List.{count_by, list_any}
use Rattle.std.proofs.Math.ListN.{get_or-append}
use Rattle.std.proofs.Math.Seq.{get_or-append_right}
use Rattle.std.proofs.lemmas.Bool.{cases_lt, ltb-true, eqb-true, and_parts, and_from, or_cases, or_left, or_right}
use Rattle.std.proofs.lemmas.Option.{get_or_from_slice_get, slice_get_within}
use Rattle.std.proofs.lemmas.List.{length-append, get_or-drop}
use Rattle.std.proofs.lemmas.List.Sums.{count_by_more_yes, sum_by-take-drop}
use Rattle.std.proofs.lemmas.List.Elements.{Contains-get_or, Contains-append_cases}
use Rattle.ltl_syntax.specs.declared.node.Node.{Node}
use Rattle.ltl_syntax.specs.declared.node.Node.TheVariants as nodes
use Rattle.ltl_syntax.specs.Table.{Table, has_child, IsFine, IsTable}
use Rattle.ltl_syntax.proofs.Members.{Contains-here, Contains-there, Contains-cons_cases, Contains-nil}
use Rattle.ltl_syntax.specs.Flat.{ordered, orders_of, order_at, node_at, places_of}
use Rattle.ltl_syntax.specs.Replacement.{Places, AreSame}
use Rattle.ltl_syntax.proofs.Orders.{first_in, child_in, in_cases, node_order, by_children}
use Rattle.ltl_syntax.proofs.Trees.{node_fine}

-- ---- two places where a predicate holds count twice

one_counted : {X : Type 0} (p : X → Bool) (xs : List X) (i : ℕ) (d : X) → i < length xs → p (get_or xs i d) ≡ true → 1 ≤ count_by p xs
one_counted p xs i d low has =
    let first = count_by_more_yes p xs i d low has in
    let whole = sum_by-take-drop (λ x. cond (p x) 1 0) xs (i + 1) in
    omega (arith, first, whole)

pub two_at : {X : Type 0} (p : X → Bool) (xs : List X) (i j : ℕ) (d : X) → i < j → j < length xs
    → p (get_or xs i d) ≡ true → p (get_or xs j d) ≡ true → 2 ≤ count_by p xs
two_at p xs i j d low within hi hj =
    let first = count_by_more_yes p xs i d (omega arith) hi in
    let whole = sum_by-take-drop (λ x. cond (p x) 1 0) xs (i + 1) in
    let e : (i + 1) + (j - (i + 1)) ≡ j = omega arith in
    let there : get_or (drop (i + 1) xs) (j - (i + 1)) d ≡ get_or xs j d = get_or-drop (i + 1) xs (j - (i + 1)) d ∙ ap (λ m. get_or xs m d) e in
    let second = one_counted p (drop (i + 1) xs) (j - (i + 1)) d (omega (arith, length-drop (i + 1) xs)) (ap p there ∙ hj) in
    omega (arith, first, whole, second)

two_counted : {X : Type 0} (p : X → Bool) (xs : List X) (i j : ℕ) (x y : X) → i < j → slice_get xs i ≡ Some x → slice_get xs j ≡ Some y
    → p x ≡ true → p y ≡ true → 2 ≤ count_by p xs
two_counted p xs i j x y low gx gy px py =
    two_at p xs i j x low (slice_get_within xs j y gy) (ap p (get_or_from_slice_get xs i x x gx) ∙ px) (ap p (get_or_from_slice_get xs j y x gy) ∙ py)

module _ (t : Table) (is : IsTable t.nodes t.names) where
  pub child_before : (c : ℕ) (m : Node) → slice_get t.nodes c ≡ Some m → (x : ℕ) → IsTrue (has_child x m) → x < c
  child_before c m g x h = by m (node_fine t is c m g) h where
    by : (m : Node) → IsFine (length t.names) c m → IsTrue (has_child x m) → x < c
    by (nodes.Const b) f h = absurd (cc)
    by (nodes.Letter n) f h = absurd (cc)
    by (nodes.Fresh n) f h = absurd (cc)
    by (nodes.Unary op a) f h = let e = eqb-true a x h in omega arith
    by (nodes.Binary op a b) f h = elim (or_cases (a == x) (b == x) h) [
      | inl l ↦ let e = eqb-true a x l in let lt = f.0 in omega arith
      | inr r ↦ let e = eqb-true b x r in let lt = f.1 in omega arith
    ]

  -- ---- what is under a number is no greater, and has its parent there

  pub order_low : (k : ℕ) → k < length t.nodes → (x : ℕ) → Contains (order_at t k) x → x ≤ k
  order_low = by_children t is (λ k. (x : ℕ) → Contains (order_at t k) x → x ≤ k) (λ k node e fine all x c.
      elim (in_cases (orders_of t) k node x (subst (λ xs. Contains xs x) (node_order t is k node e) c)) [
        | inl same ↦ omega arith
        | inr w ↦ let before = child_before k node e w.0 w.1 in let low = all w.0 before x w.2 in omega arith
      ])

  -- the number has a parent in the list
  abbrev HasParent : List ℕ → ℕ → Type 0
  HasParent xs x = (c : ℕ) × (node : Node) × Contains xs c × (slice_get t.nodes c ≡ Some node) × IsTrue (has_child x node)

  order_parented : (k : ℕ) → k < length t.nodes → (x : ℕ) → Contains (order_at t k) x → (x ≡ k) ⊎ HasParent (order_at t k) x
  order_parented = by_children t is (λ k. (x : ℕ) → Contains (order_at t k) x → (x ≡ k) ⊎ HasParent (order_at t k) x) (λ k node e fine all x c.
      subst (λ xs. (x ≡ k) ⊎ HasParent xs x) (sym (node_order t is k node e))
      (elim (in_cases (orders_of t) k node x (subst (λ xs. Contains xs x) (node_order t is k node e) c)) [
        | inl same ↦ inl (sym same)
        | inr w ↦ elim (all w.0 (child_before k node e w.0 w.1) x w.2) [
          | inl child ↦ inr (k, node, first_in (orders_of t) k node, e, subst (λ n. IsTrue (has_child n node)) (sym child) w.1)
          | inr v ↦ inr (v.0, v.1, child_in (orders_of t) k node w.0 v.0 w.1 v.2, v.3, v.4)
        ]
      ]))

  -- ---- where no node is the child of two, no node stands at two places

  pub one_parent : (x c d : ℕ) (m n : Node) → slice_get t.nodes c ≡ Some m → slice_get t.nodes d ≡ Some n → IsTrue (has_child x m)
      → IsTrue (has_child x n) → c ≡ d
  one_parent x c d m n gc gd hc hd = elim (cases_lt c d) [
    | inl before ↦ let two = two_counted (has_child x) t.nodes c d m n before gc gd hc hd in let one = is.single x in absurd (omega arith)
    | inr ge ↦ elim (cases_lt d c) [
      | inl before ↦ let two = two_counted (has_child x) t.nodes d c n m before gd gc hd hc in let one = is.single x in absurd (omega arith)
      | inr le ↦ omega arith
    ]
  ]

  -- two children of one node have nothing in common
  module _ (k : ℕ) (node : Node) (e : slice_get t.nodes k ≡ Some node) (a b : ℕ) (ha : IsTrue (has_child a node)) (hb : IsTrue (has_child b node))
      (differ : a ≡ b → ⊥) where
    before_a : a < k
    before_a = child_before k node e a ha

    before_b : b < k
    before_b = child_before k node e b hb

    within : k < length t.nodes
    within = slice_get_within t.nodes k node e

    climb : (fuel x : ℕ) → a < x + fuel → Contains (order_at t a) x → Contains (order_at t b) x → ⊥
    climb zero x lt ca cb = let i = order_low a (let l = before_a in let w = within in omega arith) x ca in omega arith
    climb (suc fuel) x lt ca cb = elim (order_parented a (let l = before_a in let w = within in omega arith) x ca) [
      | inl is_a ↦ elim (order_parented b (let l = before_b in let w = within in omega arith) x cb) [
        | inl is_b ↦ differ (sym is_a ∙ is_b)
        | inr w ↦
            let up = one_parent a w.0 k w.1 node w.3 e (subst (λ z. IsTrue (has_child z w.1)) is_a w.4) ha in
            let low = order_low b (let l = before_b in let v = within in omega arith) w.0 w.2 in
            let l = before_b in omega arith
      ]
      | inr v ↦ elim (order_parented b (let l = before_b in let w = within in omega arith) x cb) [
        | inl is_b ↦
            let up = one_parent b v.0 k v.1 node v.3 e (subst (λ z. IsTrue (has_child z v.1)) is_b v.4) hb in
            let low = order_low a (let l = before_a in let w = within in omega arith) v.0 v.2 in
            let l = before_a in omega arith
        | inr w ↦
            let up = one_parent x w.0 v.0 w.1 v.1 w.3 v.3 w.4 v.4 in
            let rise = child_before v.0 v.1 v.3 x v.4 in
            climb fuel v.0 (omega arith) v.2 (subst (Contains (order_at t b)) up w.2)
      ]
    ]

    pub nothing_common : (x : ℕ) → Contains (order_at t a) x → Contains (order_at t b) x → ⊥
    nothing_common x ca cb = climb (suc a) x (omega arith) ca cb

  AreDistinct : List ℕ → Type 0
  AreDistinct xs = (i j : ℕ) → i < j → j < length xs → get_or xs i 0 ≡ get_or xs j 0 → ⊥

  distinct_cons : (k : ℕ) (xs : List ℕ) → (Contains xs k → ⊥) → AreDistinct xs → AreDistinct (k ∷ xs)
  unfolding AreDistinct
  distinct_cons k xs out d i zero lt low same = absurd (omega arith)
  distinct_cons k xs out d zero (suc j) lt low same = out (subst (Contains xs) (sym same) (Contains-get_or xs j 0 (omega arith)))
  distinct_cons k xs out d (suc i) (suc j) lt low same = d i j (omega arith) (omega arith) same

  distinct_append : (xs ys : List ℕ) → AreDistinct xs → AreDistinct ys → ((x : ℕ) → Contains xs x → Contains ys x → ⊥) → AreDistinct (xs ++ ys)
  unfolding AreDistinct
  distinct_append xs ys dx dy out i j lt low same =
      let l = length-append xs ys in
      elim (cases_lt j (length xs)) [
        | inl before ↦ dx i j lt before (sym (get_or-append xs ys 0 i (omega arith)) ∙ (same ∙ get_or-append xs ys 0 j before))
        | inr after ↦ elim (cases_lt i (length xs)) [
          | inl before ↦
              let here : get_or xs i 0 ≡ get_or ys (j - length xs) 0 = sym (get_or-append xs ys 0 i before) ∙ (same ∙ get_or-append_right xs ys j 0 after) in
              out (get_or xs i 0) (Contains-get_or xs i 0 before) (subst (Contains ys) (sym here) (Contains-get_or ys (j - length xs) 0 (omega arith)))
          | inr past ↦ dy (i - length xs) (j - length xs) (omega arith) (omega arith)
              (sym (get_or-append_right xs ys i 0 past) ∙ (same ∙ get_or-append_right xs ys j 0 after))
        ]
      ]

  distinct_one : (k : ℕ) → AreDistinct (k ∷ [])
  unfolding AreDistinct
  distinct_one k i j lt low same = omega arith

  distinct_step : (k : ℕ) (node : Node) → slice_get t.nodes k ≡ Some node → IsFine (length t.names) k node → ((j : ℕ) → j < k → AreDistinct (order_at t j))
      → AreDistinct (ordered (orders_of t) k node)
  distinct_step k (nodes.Const b) e fine all = distinct_one k
  distinct_step k (nodes.Letter n) e fine all = distinct_one k
  distinct_step k (nodes.Fresh n) e fine all = distinct_one k
  distinct_step k (nodes.Unary op a) e fine all =
      let w = slice_get_within t.nodes k (nodes.Unary op a) e in
      distinct_cons k (order_at t a) (λ c. let i = order_low a (omega arith) k c in omega arith) (all a fine)
  distinct_step k (nodes.Binary op a b) e fine all =
      let w = slice_get_within t.nodes k (nodes.Binary op a b) e in
      let la = fine.0 in
      let lb = fine.1 in
      distinct_cons k (order_at t a ++ order_at t b) (λ c. elim (Contains-append_cases (order_at t a) (order_at t b) k c) [
        | inl l ↦ let i = order_low a (omega arith) k l in omega arith
        | inr r ↦ let i = order_low b (omega arith) k r in omega arith
      ]) (distinct_append (order_at t a) (order_at t b) (all a la) (all b lb)
      (nothing_common k (nodes.Binary op a b) e a b (or_left (a == a) (b == a) (eq-eqb a a refl)) (or_right (a == b) (b == b) (eq-eqb b b refl)) (fine.2)))

  pub order_distinct : (k : ℕ) → k < length t.nodes → (i j : ℕ) → i < j → j < length (order_at t k) → node_at t k i ≡ node_at t k j → ⊥
  unfolding AreDistinct
  order_distinct = by_children t is (λ k. AreDistinct (order_at t k))
      (λ k node e fine all. subst AreDistinct (sym (node_order t is k node e)) (distinct_step k node e fine all))

  -- ---- the nodes at the places of a set stand at these places

  pub among_from : (x : ℕ) (xs : List ℕ) → Contains xs x → IsTrue (list_any (λ m. m == x) xs)
  among_from x [] c = absurd (Contains-nil x c)
  among_from x (y ∷ xs) c = elim (Contains-cons_cases y xs x c) [
    | inl same ↦ or_left (y == x) (list_any (λ m. m == x) xs) (eq-eqb y x same)
    | inr rest ↦ or_right (y == x) (list_any (λ m. m == x) xs) (among_from x xs rest)
  ]

  pub among_to : (x : ℕ) (xs : List ℕ) → IsTrue (list_any (λ m. m == x) xs) → Contains xs x
  among_to x [] e = cc
  among_to x (y ∷ xs) e = elim (or_cases (y == x) (list_any (λ m. m == x) xs) e) [
    | inl here ↦ subst (λ z. Contains (z ∷ xs) x) (sym (eqb-true y x here)) (Contains-here x xs)
    | inr rest ↦ Contains-there y xs x (among_to x xs rest)
  ]

  pub one_test : (a b : Bool) → (a ≡ true → b ≡ true) → (b ≡ true → a ≡ true) → a ≡ b
  one_test true b h k = sym (h refl)
  one_test false true h k = k refl
  one_test false false h k = refl

  pub places_back : (root : ℕ) → root < length t.nodes → (P : Places) (numbers : List ℕ) → ((n : ℕ) → IsTrue (P n) → n < length (order_at t root))
      → ((m : ℕ) → Contains numbers m ↔ ((n : ℕ) × IsTrue (P n) × (node_at t root n ≡ m))) → AreSame (places_of t root numbers) P
  places_back root lt P numbers low same n =
      one_test (places_of t root numbers n) (P n)
      (λ e.
      let w = and_parts (ltb n (length (order_at t root))) (list_any (λ m. m == node_at t root n) numbers) e in
      let v = (same (node_at t root n)).0 (among_to (node_at t root n) numbers w.1) in
      subst (λ k. IsTrue (P k)) (one_place root lt v.0 n (low v.0 v.1) (ltb-true n (length (order_at t root)) w.0) v.2) v.1)
      (λ p. and_from (ltb n (length (order_at t root))) (list_any (λ m. m == node_at t root n) numbers) (lt-ltb n (length (order_at t root)) (low n p))
      (among_from (node_at t root n) numbers ((same (node_at t root n)).1 (n, p, refl))))
    where
      one_place : (root : ℕ) → root < length t.nodes → (i j : ℕ) → i < length (order_at t root) → j < length (order_at t root)
          → node_at t root i ≡ node_at t root j → i ≡ j
      one_place root lt i j li lj e = elim (cases_lt i j) [
        | inl before ↦ absurd (order_distinct root lt i j before lj e)
        | inr ge ↦ elim (cases_lt j i) [
          | inl before ↦ absurd (order_distinct root lt j i before li (sym e))
          | inr le ↦ omega arith
        ]
      ]
