-- Fresh letters in the place of some nodes of a table replace these occurrences.
use Rattle.std.proofs.Common.{◌≡◌, ℕ, zero, suc, ◌+◌, ◌-◌, ◌<◌, inl, inr, subst, ap, ap₂, arith, sym, refl, ◌∙◌, Bool, true, false, cond, IsTrue, List, [], ◌∷◌}
use Rattle.std.proofs.Common.{◌++◌, length, get_or, slice_get, Some, ◌==◌, eq-eqb, ◌⊎◌}
use Rattle.std.proofs.Math.ListN.{get_or-append}
use Rattle.std.proofs.lemmas.Bool.{cases_Bool, cases_lt, cond-true, cond-false, or_from, or_left, or_right}
use Rattle.std.specs.List.{list_any}
use Rattle.std.proofs.lemmas.Option.{slice_get_within}
use Rattle.std.proofs.lemmas.List.{length-append, get_or-append-add}
use Rattle.ltl_syntax.specs.declared.node.Node.{Node}
use Rattle.ltl_syntax.specs.declared.node.Node.TheVariants as nodes
use Rattle.ltl_syntax.specs.Formula.{Fresh, Formula, Const, Letter, Unary, Binary, nodes_in}
use Rattle.ltl_syntax.specs.Table.{Table, made, trees_of, tree_at, has_child, IsFine, IsTable, IsRoot, MayFollow}
use Rattle.ltl_syntax.specs.Replacement.{Places, part_at, replaced_from, rep_from, rep, AreApart}
use Rattle.ltl_syntax.proofs.Places.{nodes_some, part_left, part_right, replaced-cut, rep-cut}
use Rattle.ltl_syntax.specs.Size.{HasOrder}
use Rattle.ltl_syntax.proofs.Sizes.{order_at as order_at_node}
use Rattle.ltl_syntax.specs.Flat.{ordered, orders_of, order_at, node_at, count_in, IsOverwritten}
use Rattle.ltl_syntax.proofs.Orders.{node_order, by_children, order_long}
use Rattle.ltl_syntax.proofs.Trees.{node_tree, node_fine}
use Rattle.std.proofs.lemmas.List.Elements.{Contains-get_or}
use Rattle.ltl_syntax.proofs.Distinct.{one_parent, order_low, order_distinct}

-- ---- places of a set, counted

pub count_zero : (P : Places) (at : ℕ) → count_in P at 0 ≡ 0
unfolding count_in
count_zero P at = refl

pub count_more : (P : Places) (at n : ℕ) → count_in P at (suc n) ≡ count_in P at n + cond (P (at + n)) 1 0
unfolding count_in
count_more P at n = refl

-- a place counts one or nothing
abbrev pub one_if : Bool → ℕ
one_if b = cond b 1 0

moved_place : (P : Places) (m n : ℕ) → m ≡ n → one_if (P m) ≡ one_if (P n)
moved_place P m n e = ap (λ k. one_if (P k)) e

pub counts_one : (P : Places) (n : ℕ) → P n ≡ true → one_if (P n) ≡ 1
counts_one P n e = cond-true (P n) 1 0 e

pub counts_none : (P : Places) (n : ℕ) → P n ≡ false → one_if (P n) ≡ 0
counts_none P n e = cond-false (P n) 1 0 e

count_one : (P : Places) (at n : ℕ) → count_in P at (suc n) ≡ cond (P at) 1 0 + count_in P (suc at) n
count_one P at zero =
    let a = count_more P at zero in
    let b = count_zero P at in
    let c = count_zero P (suc at) in
    let e = moved_place P (at + zero) at (omega arith) in omega arith
count_one P at (suc n) =
    let i = count_one P at n in
    let a = count_more P at (suc n) in
    let b = count_more P (suc at) n in
    let e = moved_place P (at + suc n) (suc at + n) (omega arith) in omega arith

count_none : (P : Places) (at n : ℕ) → ((m : ℕ) → m < n → P (at + m) ≡ false) → count_in P at n ≡ 0
count_none P at zero none = count_zero P at
count_none P at (suc n) none =
    let i = count_none P at n (λ m lt. none m (omega arith)) in
    let a = count_more P at n in
    let e = counts_none P (at + n) (none n (omega arith)) in omega arith

count_two : (P : Places) (at m n : ℕ) → count_in P at (m + n) ≡ count_in P at m + count_in P (at + m) n
count_two P at m zero =
    let here : m + zero ≡ m = omega arith in
    let e = ap (count_in P at) here in
    let z = count_zero P (at + m) in omega arith
count_two P at m (suc n) =
    let i = count_two P at m n in
    let here : m + suc n ≡ suc (m + n) = omega arith in
    let e = ap (count_in P at) here in
    let a = count_more P at (m + n) in
    let b = count_more P (at + m) n in
    let d = moved_place P (at + (m + n)) (at + m + n) (omega arith) in omega arith

-- no place of the set is under another, where f stands at a place of a larger formula
abbrev AreLocal : Places → ℕ → Formula → Type 0
AreLocal P at f = (j : ℕ) → j < nodes_in f → IsTrue (P (at + j)) → (m : ℕ) → j < m → m < j + nodes_in (part_at f j) → P (at + m) ≡ false

module _ (P : Places) where
  local_one : (at : ℕ) (op : _) (a : Formula) → AreLocal P at (Unary op a) → AreLocal P (suc at) a
  local_one at op a h j lt p m low high =
      let here : suc at + j ≡ at + suc j = omega arith in
      let there : at + suc m ≡ suc at + m = omega arith in
      sym (ap P there) ∙ h (suc j) (omega arith) (subst (λ k. IsTrue (P k)) here p) (suc m) (omega arith) (omega arith)

  local_left : (at : ℕ) (op : _) (a b : Formula) → AreLocal P at (Binary op a b) → AreLocal P (suc at) a
  local_left at op a b h j lt p m low high =
      let here : suc at + j ≡ at + suc j = omega arith in
      let there : at + suc m ≡ suc at + m = omega arith in
      let e = ap nodes_in (part_left op a b j lt) in
      sym (ap P there) ∙ h (suc j) (omega arith) (subst (λ k. IsTrue (P k)) here p) (suc m) (omega arith) (omega arith)

  local_right : (at : ℕ) (op : _) (a b : Formula) → AreLocal P at (Binary op a b) → AreLocal P (suc at + nodes_in a) b
  local_right at op a b h j lt p m low high =
      let here : suc at + nodes_in a + j ≡ at + suc (nodes_in a + j) = omega arith in
      let there : at + suc (nodes_in a + m) ≡ suc at + nodes_in a + m = omega arith in
      let back : nodes_in a + j - nodes_in a ≡ j = omega arith in
      let e = ap nodes_in (part_right op a b (nodes_in a + j) (omega arith) ∙ ap (part_at b) back) in
      sym (ap P there) ∙ h (suc (nodes_in a + j)) (omega arith) (subst (λ k. IsTrue (P k)) here p) (suc (nodes_in a + m)) (omega arith) (omega arith)

  cut_counted : (f : Formula) (at : ℕ) → AreLocal P at f → P at ≡ true → length (replaced_from P at f) ≡ count_in P at (nodes_in f)
  cut_counted f at h e =
      let one = ap length (replaced-cut P at f e) in
      let some = nodes_some f in
      let here : at + zero ≡ at = omega arith in
      let rest = count_none P (suc at) (nodes_in f - 1)
      (λ m lt. let there : suc at + m ≡ at + suc m = omega arith in ap P there ∙ h zero (omega arith) (ap P here ∙ e) (suc m) (omega arith) (omega arith)) in
      let all = count_one P at (nodes_in f - 1) in
      let whole : suc (nodes_in f - 1) ≡ nodes_in f = omega arith in
      let d = ap (count_in P at) whole in
      let g = counts_one P at e in omega arith

  -- as many occurrences are replaced as places are in the set
  pub counted : (f : Formula) (at : ℕ) → AreLocal P at f → length (replaced_from P at f) ≡ count_in P at (nodes_in f)
  counted (Const b) at h = elim (cases_Bool (P at)) [
    | inl e ↦ cut_counted (Const b) at h e
    | inr e ↦ let d = ap length (cond-false (P at) (Const b ∷ []) [] e) in let c = count_one P at 0 in let z = count_zero P (suc at) in
        let g = counts_none P at e in omega arith
  ]
  counted (Letter p) at h = elim (cases_Bool (P at)) [
    | inl e ↦ cut_counted (Letter p) at h e
    | inr e ↦ let d = ap length (cond-false (P at) (Letter p ∷ []) [] e) in let c = count_one P at 0 in let z = count_zero P (suc at) in
        let g = counts_none P at e in omega arith
  ]
  counted (Unary op a) at h = elim (cases_Bool (P at)) [
    | inl e ↦ cut_counted (Unary op a) at h e
    | inr e ↦
        let d = ap length (cond-false (P at) (Unary op a ∷ []) (replaced_from P (suc at) a) e) in
        let i = counted a (suc at) (local_one at op a h) in
        let c = count_one P at (nodes_in a) in
        let whole : nodes_in a + 1 ≡ suc (nodes_in a) = omega arith in
        let w = ap (count_in P at) whole in
        let g = counts_none P at e in omega arith
  ]
  counted (Binary op a b) at h = elim (cases_Bool (P at)) [
    | inl e ↦ cut_counted (Binary op a b) at h e
    | inr e ↦
        let xs = replaced_from P (suc at) a in
        let ys = replaced_from P (suc at + nodes_in a) b in
        let d = ap length (cond-false (P at) (Binary op a b ∷ []) (xs ++ ys) e) in
        let l = length-append xs ys in
        let i = counted a (suc at) (local_left at op a b h) in
        let j = counted b (suc at + nodes_in a) (local_right at op a b h) in
        let c = count_one P at (nodes_in a + nodes_in b) in
        let two = count_two P (suc at) (nodes_in a) (nodes_in b) in
        let whole : nodes_in a + nodes_in b + 1 ≡ suc (nodes_in a + nodes_in b) = omega arith in
        let w = ap (count_in P at) whole in
        let g = counts_none P at e in omega arith
  ]

-- ---- a table with fresh letters in the place of some nodes

module _ (t u : Table) (is : IsTable t.nodes t.names) (is' : IsTable u.nodes u.names) (P : Places) (names : u.names ≡ t.names) where
  -- the nodes of the list, which stand from a place on: those at places of P are fresh letters in u, and the others are as in t
  pub record IsMarked (xs : List ℕ) (f : Formula) (at next : ℕ) : Type 0 where
    pub cut : (j : ℕ) → j < length xs → IsTrue (P (at + j)) → slice_get u.nodes (get_or xs j 0) ≡ Some (nodes.Fresh (next + count_in P at j))
    pub kept : (j : ℕ) → j < length xs → P (at + j) ≡ false → slice_get u.nodes (get_or xs j 0) ≡ slice_get t.nodes (get_or xs j 0)
    pub apart : AreLocal P at f

  Becomes : ℕ → Type 0
  Becomes k = (at next : ℕ) → IsMarked (order_at t k) (tree_at t k) at next → tree_at u k ≡ rep_from P at next (tree_at t k)

  first_cut : (k : ℕ) (rest : List ℕ) (f : Formula) (at next : ℕ) → IsMarked (k ∷ rest) f at next → P at ≡ true → tree_at u k ≡ rep_from P at next f
  unfolding count_in
  first_cut k rest f at next h e =
      let here : at + zero ≡ at = omega arith in
      let there : next + zero ≡ next = omega arith in
      node_tree u is' k (nodes.Fresh (next + zero)) (h.cut zero (omega arith) (ap P here ∙ e))
      ∙ (ap (λ n. Letter (Fresh n)) there ∙ sym (rep-cut P at next f e))

  first_kept : (k : ℕ) (rest : List ℕ) (f : Formula) (at next : ℕ) (node : Node) → slice_get t.nodes k ≡ Some node → IsMarked (k ∷ rest) f at next
      → P at ≡ false → tree_at u k ≡ made t.names (trees_of u) node
  first_kept k rest f at next node g h e =
      let here : at + zero ≡ at = omega arith in
      node_tree u is' k node (h.kept zero (omega arith) (ap P here ∙ e) ∙ g) ∙ ap (λ ns. made ns (trees_of u) node) names

  marked_one : (k : ℕ) (xs : List ℕ) (op : _) (f : Formula) (at next : ℕ) → P at ≡ false → IsMarked (k ∷ xs) (Unary op f) at next → IsMarked xs f (suc at) next
  marked_one k xs op f at next e h = record {
    cut = λ j lt p.
        let here : suc at + j ≡ at + suc j = omega arith in
        let g = counts_none P at e in
        let c = count_one P at j in
        let n : next + count_in P at (suc j) ≡ next + count_in P (suc at) j = omega arith in
        h.cut (suc j) (omega arith) (subst (λ k. IsTrue (P k)) here p) ∙ ap (λ m. Some (nodes.Fresh m)) n;
    kept = λ j lt p. let here : at + suc j ≡ suc at + j = omega arith in h.kept (suc j) (omega arith) (ap P here ∙ p);
    apart = local_one P at op f h.apart;
  }

  marked_left : (k : ℕ) (xs ys : List ℕ) (op : _) (f g : Formula) (at next : ℕ) → P at ≡ false → IsMarked (k ∷ (xs ++ ys)) (Binary op f g) at next
      → IsMarked xs f (suc at) next
  marked_left k xs ys op f g at next e h =
      let l = length-append xs ys in
      record {
        cut = λ j lt p.
            let here : suc at + j ≡ at + suc j = omega arith in
            let d = counts_none P at e in
            let c = count_one P at j in
            let n : next + count_in P at (suc j) ≡ next + count_in P (suc at) j = omega arith in
            ap (slice_get u.nodes) (sym (get_or-append xs ys 0 j lt))
            ∙ (h.cut (suc j) (omega arith) (subst (λ k. IsTrue (P k)) here p) ∙ ap (λ m. Some (nodes.Fresh m)) n);
        kept = λ j lt p.
            let here : at + suc j ≡ suc at + j = omega arith in
            subst (λ m. slice_get u.nodes m ≡ slice_get t.nodes m) (get_or-append xs ys 0 j lt) (h.kept (suc j) (omega arith) (ap P here ∙ p));
        apart = local_left P at op f g h.apart;
      }

  marked_right : (k : ℕ) (xs ys : List ℕ) (op : _) (f g : Formula) (at next : ℕ) → length xs ≡ nodes_in f
      → P at ≡ false → IsMarked (k ∷ (xs ++ ys)) (Binary op f g) at next
      → IsMarked ys g (suc at + nodes_in f) (next + length (replaced_from P (suc at) f))
  marked_right k xs ys op f g at next long e h =
      let l = length-append xs ys in
      let some = counted P f (suc at) (local_left P at op f g h.apart) in
      record {
        cut = λ j lt p.
            let here : suc at + nodes_in f + j ≡ at + suc (length xs + j) = omega arith in
            let d = counts_none P at e in
            let c = count_one P at (length xs + j) in
            let both = count_two P (suc at) (length xs) j in
            let first = ap (count_in P (suc at)) long in
            let second : count_in P (suc at + length xs) j ≡ count_in P (suc at + nodes_in f) j = ap (λ m. count_in P (suc at + m) j) long in
            let n : next + count_in P at (suc (length xs + j)) ≡ next + length (replaced_from P (suc at) f) + count_in P (suc at + nodes_in f) j =
            omega arith in
            ap (slice_get u.nodes) (sym (get_or-append-add xs ys j 0))
            ∙ (h.cut (suc (length xs + j)) (omega arith) (subst (λ k. IsTrue (P k)) here p) ∙ ap (λ m. Some (nodes.Fresh m)) n);
        kept = λ j lt p.
            let here : at + suc (length xs + j) ≡ suc at + nodes_in f + j = omega arith in
            subst (λ m. slice_get u.nodes m ≡ slice_get t.nodes m) (get_or-append-add xs ys j 0) (h.kept (suc (length xs + j)) (omega arith) (ap P here ∙ p));
        apart = local_right P at op f g h.apart;
      }

  becomes_step : (k : ℕ) (node : Node) → slice_get t.nodes k ≡ Some node → IsFine (length t.names) k node → ((j : ℕ) → j < k → Becomes j) → (at next : ℕ)
      → IsMarked (ordered (orders_of t) k node) (made t.names (trees_of t) node) at next
      → tree_at u k ≡ rep_from P at next (made t.names (trees_of t) node)
  unfolding Becomes
  becomes_step k (nodes.Const b) e fine all at next h = elim (cases_Bool (P at)) [
    | inl yes' ↦ first_cut k [] (Const b) at next h yes'
    | inr no' ↦ first_kept k [] (Const b) at next (nodes.Const b) e h no' ∙ sym (cond-false (P at) (Letter (Fresh next)) (Const b) no')
  ]
  becomes_step k (nodes.Letter n) e fine all at next h = elim (cases_Bool (P at)) [
    | inl yes' ↦ first_cut k [] (made t.names (trees_of t) (nodes.Letter n)) at next h yes'
    | inr no' ↦ first_kept k [] (made t.names (trees_of t) (nodes.Letter n)) at next (nodes.Letter n) e h no'
        ∙ sym (cond-false (P at) (Letter (Fresh next)) (made t.names (trees_of t) (nodes.Letter n)) no')
  ]
  becomes_step k (nodes.Fresh n) e fine all at next h = elim (cases_Bool (P at)) [
    | inl yes' ↦ first_cut k [] (Letter (Fresh n)) at next h yes'
    | inr no' ↦ first_kept k [] (Letter (Fresh n)) at next (nodes.Fresh n) e h no' ∙ sym (cond-false (P at) (Letter (Fresh next)) (Letter (Fresh n)) no')
  ]
  becomes_step k (nodes.Unary op a) e fine all at next h = elim (cases_Bool (P at)) [
    | inl yes' ↦ first_cut k (order_at t a) (Unary op (tree_at t a)) at next h yes'
    | inr no' ↦
        first_kept k (order_at t a) (Unary op (tree_at t a)) at next (nodes.Unary op a) e h no'
        ∙ (ap (Unary op) (all a fine (suc at) next (marked_one k (order_at t a) op (tree_at t a) at next no' h))
        ∙ sym (cond-false (P at) (Letter (Fresh next)) (Unary op (rep_from P (suc at) next (tree_at t a))) no'))
  ]
  becomes_step k (nodes.Binary op a b) e fine all at next h = elim (cases_Bool (P at)) [
    | inl yes' ↦ first_cut k (order_at t a ++ order_at t b) (Binary op (tree_at t a) (tree_at t b)) at next h yes'
    | inr no' ↦
        let w = slice_get_within t.nodes k (nodes.Binary op a b) e in
        let la = fine.0 in
        let long = order_long t is a (omega arith) in
        let left = all a fine.0 (suc at) next (marked_left k (order_at t a) (order_at t b) op (tree_at t a) (tree_at t b) at next no' h) in
        let right = all b fine.1 (suc at + nodes_in (tree_at t a)) (next + length (replaced_from P (suc at) (tree_at t a)))
        (marked_right k (order_at t a) (order_at t b) op (tree_at t a) (tree_at t b) at next long no' h) in
        first_kept k (order_at t a ++ order_at t b) (Binary op (tree_at t a) (tree_at t b)) at next (nodes.Binary op a b) e h no'
        ∙ (ap₂ (Binary op) left right
        ∙ sym (cond-false (P at) (Letter (Fresh next)) (Binary op (rep_from P (suc at) next (tree_at t a))
        (rep_from P (suc at + nodes_in (tree_at t a)) (next + length (replaced_from P (suc at) (tree_at t a))) (tree_at t b))) no'))
  ]

  pub becomes : (k : ℕ) → k < length t.nodes → (at next : ℕ) → IsMarked (order_at t k) (tree_at t k) at next → tree_at u k ≡ rep_from P at next (tree_at t k)
  unfolding Becomes
  becomes = by_children t is Becomes (λ k node e fine all at next h.
      let h' : IsMarked (ordered (orders_of t) k node) (made t.names (trees_of t) node) at next =
      subst (λ f. IsMarked (ordered (orders_of t) k node) f at next) (node_tree t is k node e)
      (subst (λ xs. IsMarked xs (tree_at t k) at next) (node_order t is k node e) h) in
      becomes_step k node e fine all at next h' ∙ sym (ap (rep_from P at next) (node_tree t is k node e)))

local_from_apart : (f : Formula) (P : Places) → AreApart f P → AreLocal P 0 f
local_from_apart f P h j lt p m low high =
    let here : 0 + j ≡ j = omega arith in
    let there : 0 + m ≡ m = omega arith in
    elim (cases_Bool (P (0 + m))) [
      | inl e ↦ absurd (h.apart m j (subst (λ k. IsTrue (P k)) there e) (subst (λ k. IsTrue (P k)) here p) (low, high))
      | inr e ↦ e
    ]

-- overwriting the nodes at places of P by fresh letters replaces these occurrences
pub overwriting_replaces : (t u : Table) → IsTable t.nodes t.names → IsTable u.nodes u.names → (root : ℕ) → root < length t.nodes → (P : Places)
    → AreApart (tree_at t root) P → IsOverwritten t root P u
    → tree_at u root ≡ rep (tree_at t root) P
overwriting_replaces t u is is' root lt P apart w =
    becomes t u is is' P w.names root lt 0 0 (record {
      cut = λ j low p.
          let here : 0 + j ≡ j = omega arith in
          let there : count_in P 0 j ≡ 0 + count_in P 0 j = omega arith in
          w.cut j low (subst (λ k. IsTrue (P k)) here p) ∙ ap (λ m. Some (nodes.Fresh m)) there;
      kept = λ j low e.
          let i = order_low t is root lt (node_at t root j) (Contains-get_or (order_at t root) j 0 low) in
          w.kept (node_at t root j) (omega arith) (λ n low' p same. elim (cases_lt n j) [
            | inl before ↦ order_distinct t is root lt n j before low same
            | inr ge ↦ elim (cases_lt j n) [
              | inl before ↦ order_distinct t is root lt j n before low' (sym same)
              | inr le ↦ let here : 0 + j ≡ n = omega arith in let x = subst (λ k. P k ≡ false) here e in cc
            ]
          ]);
      apart = local_from_apart (tree_at t root) P apart;
    })

-- ---- the nodes of such a table can be put on top of each other again

no_child : (p : Node → Bool) (ns : List Node) → ((i : ℕ) (node : Node) → slice_get ns i ≡ Some node → p node ≡ false) → list_any p ns ≡ false
no_child p [] none = refl
no_child p (n ∷ ns) none = or_from (p n) (list_any p ns) (none zero n refl) (no_child p ns (λ i node e. none (suc i) node e))

module _ (t u : Table) (is : IsTable t.nodes t.names) (names : u.names ≡ t.names)
    (each : (i : ℕ) → i < length u.nodes → ((n : ℕ) × (slice_get u.nodes i ≡ Some (nodes.Fresh n))) ⊎ (slice_get u.nodes i ≡ slice_get t.nodes i)) (node : Node)
    (at : slice_get t.nodes (length u.nodes) ≡ Some node) where
  still_root : (a : ℕ) → a < length u.nodes → IsTrue (has_child a node) → IsRoot u a
  still_root a lt child = (
    lt,
    no_child (has_child a) u.nodes (λ i m e. elim (cases_Bool (has_child a m)) [
      | inr no' ↦ no'
      | inl yes' ↦ elim (each i (slice_get_within u.nodes i m e)) [
        | inl w ↦ let same : m ≡ nodes.Fresh w.0 = cc in let x : has_child a (nodes.Fresh w.0) ≡ true = subst (λ z. has_child a z ≡ true) same yes' in cc
        | inr same ↦
            let low = slice_get_within u.nodes i m e in
            let up = one_parent t is a i (length u.nodes) m node (sym same ∙ e) at yes' child in absurd (omega arith)
      ]
    ]),
  )

  may_follow_by : (m : Node) → IsFine (length t.names) (length u.nodes) m → HasOrder m
      → ((a : ℕ) → a < length u.nodes → IsTrue (has_child a m) → IsRoot u a) → MayFollow u m
  may_follow_by (nodes.Const b) fine ordered root = tt
  may_follow_by (nodes.Letter n) fine ordered root = let e = ap length names in omega arith
  may_follow_by (nodes.Fresh n) fine ordered root = tt
  may_follow_by (nodes.Unary op a) fine ordered root = (root a fine (eq-eqb a a refl), ordered)
  may_follow_by (nodes.Binary op a b) fine ordered root =
      (root a fine.0 (or_left (a == a) (b == a) (eq-eqb a a refl)), root b fine.1 (or_right (a == b) (b == b) (eq-eqb b b refl)), fine.2)

  pub may_follow : MayFollow u node
  may_follow = may_follow_by node (node_fine t is (length u.nodes) node at) (order_at_node t.nodes is.ordered (length u.nodes) node at) still_root
