-- No tree of a table is larger than the table: the sizes of the trees that are under no other add up to the sizes of the nodes.
use Rattle.std.proofs.Common.{◌≡◌, ◌≢◌, ℕ, zero, suc, ◌+◌, ◌-◌, ◌<◌, ◌≤◌, refl, sym, ◌∙◌, ap, subst, arith, inl, inr, Bool, true, false, ◌==◌, ◌||◌, cond}
use Rattle.std.proofs.Common.{IsTrue, List, length, drop, length-drop, slice_get, Some, get_or}
use Rattle.std.specs.List.{count_by}
use Rattle.std.proofs.Math.Seq.{drop-cons}
use Rattle.std.proofs.lemmas.Bool.{cases_lt, eq-eqb}
use Rattle.std.proofs.lemmas.Bool.Decides.{eqb_tells}
use Rattle.std.proofs.lemmas.Option.{get_or_from_slice_get}
use Rattle.std.proofs.lemmas.List.Sums.{count_by_more_yes, sum_by-take-drop}
use Rattle.std.proofs.lemmas.List.{get_or-drop}
use Rattle.ltl_syntax.specs.declared.node.Node.{Node}
use Rattle.ltl_syntax.specs.declared.node.Node.TheVariants as nodes
use Rattle.ltl_syntax.specs.Size.{node_size, sizes, formula_size}
use Rattle.ltl_syntax.specs.Table.{Table, IsFine, tree_at, trees_of, made, has_child}
use Rattle.ltl_syntax.proofs.Distinct.{two_at}

-- a node as it is read
pub record IsSeen (t : Table) (number : ℕ) : Type 0 where
  pub node : Node
  pub there : slice_get t.nodes number ≡ Some node
  pub tree : tree_at t number ≡ made t.names (trees_of t) node
  pub below : IsFine (length t.names) number node

-- and each below a number
abbrev pub Seen : Table → ℕ → Type 0
Seen t k = (j : ℕ) → j < k → IsSeen t j

-- ---- sums of weights

-- the sum of the weights of the numbers below k that are marked
abbrev weighed : (ℕ → ℕ) → (ℕ → Bool) → ℕ → ℕ
weighed w f zero = 0
weighed w f (suc k) = weighed w f k + cond (f k) (w k) 0

abbrev all_weighed : (ℕ → ℕ) → ℕ → ℕ
all_weighed w zero = 0
all_weighed w (suc k) = all_weighed w k + w k

weighed_same : (w : ℕ → ℕ) (f g : ℕ → Bool) (k : ℕ) → ((i : ℕ) → i < k → f i ≡ g i) → weighed w f k ≡ weighed w g k
weighed_same w f g zero same = refl
weighed_same w f g (suc k) same =
    let before = weighed_same w f g k (λ i h. same i (omega arith)) in
    let here : cond (f k) (w k) 0 ≡ cond (g k) (w k) 0 = ap (λ b. cond b (w k) 0) (same k (omega arith)) in
    omega (arith, before, here)

at_most_all : (w : ℕ → ℕ) (f : ℕ → Bool) (k : ℕ) → weighed w f k ≤ all_weighed w k
at_most_all w f zero = omega arith
at_most_all w f (suc k) = let before = at_most_all w f k in let here = part (f k) (w k) in omega (arith, before, here) where
  part : (b : Bool) (n : ℕ) → cond b n 0 ≤ n
  part true n = omega arith
  part false n = omega arith

weighed_more : (w : ℕ → ℕ) (f g : ℕ → Bool) (a k : ℕ) → a < k → f a ≡ false → g a ≡ true → ((i : ℕ) → i ≢ a → g i ≡ f i) → weighed w g k ≡ weighed w f k + w a
weighed_more w f g a zero low was is others = absurd (omega arith)
weighed_more w f g a (suc k) low was is others = elim (cases_lt a k) [
  | inl within ↦
      let before = weighed_more w f g a k within was is others in
      let here : cond (g k) (w k) 0 ≡ cond (f k) (w k) 0 = ap (λ b. cond b (w k) 0) (others k (omega arith)) in
      omega (arith, before, here)
  | inr past ↦
      let e : k ≡ a = omega arith in
      let before = weighed_same w g f k (λ i h. others i (omega arith)) in
      let new : cond (g k) (w k) 0 ≡ w a = subst (λ m. cond (g m) (w m) 0 ≡ w a) (sym e) (ap (λ b. cond b (w a) 0) is) in
      let old : cond (f k) (w k) 0 ≡ 0 = subst (λ m. cond (f m) (w m) 0 ≡ 0) (sym e) (ap (λ b. cond b (w a) 0) was) in
      omega (arith, before, new, old)
]

-- ---- tests

or_left : (x y : Bool) → IsTrue x → IsTrue (x || y)
or_left true y e = refl
or_left false y e = absurd (cc)

or_right : (x y : Bool) → IsTrue y → IsTrue (x || y)
or_right true y e = refl
or_right false y e = e

or_false : (x : Bool) → (x || false) ≡ x
or_false true = refl
or_false false = refl

or_neither : (x y : Bool) → x ≡ false → y ≡ false → (x || y) ≡ false
or_neither false y e f = f
or_neither true y e f = absurd (cc)

not_true : (x : Bool) → (x ≡ true → ⊥) → x ≡ false
not_true true h = absurd (h refl)
not_true false h = refl

not_equal : (a b : ℕ) → b ≢ a → (a == b) ≡ false
not_equal a b n = elim (eqb_tells a b) [ inl w ↦ absurd (n (sym w.1)) | inr w ↦ w.0 ]

-- ---- the table

abbrev none : Node
none = nodes.Const false

module _ (t : Table) (single : (number : ℕ) → count_by (has_child number) t.nodes ≤ 1) where
  abbrev node_at : ℕ → Node
  node_at k = get_or t.nodes k none

  abbrev weight : ℕ → ℕ
  weight k = formula_size (tree_at t k)

  -- one of the first k nodes has the number for its child
  abbrev used : ℕ → ℕ → Bool
  used zero i = false
  used (suc k) i = used k i || has_child i (node_at k)

  abbrev total : ℕ → ℕ
  total zero = 0
  total (suc k) = total k + node_size (node_at k)

  -- a child is before its parent
  child_before : (k m : ℕ) → k ≤ m → (node : Node) → IsFine (length t.names) k node → has_child m node ≡ false
  child_before k m le (nodes.Const b) fine = refl
  child_before k m le (nodes.Letter n) fine = refl
  child_before k m le (nodes.Fresh n) fine = refl
  child_before k m le (nodes.Unary op a) fine = not_equal a m (λ e. omega (arith, fine))
  child_before k m le (nodes.Binary op a b) fine =
      or_neither (a == m) (b == m) (not_equal a m (λ e. omega (arith, fine.0))) (not_equal b m (λ e. omega (arith, fine.1)))

  unused : (k m : ℕ) → k ≤ m + 1 → Seen t k → used k m ≡ false
  unused zero m le seen = refl
  unused (suc k) m le seen =
      let s = seen k (omega arith) in
      let e = get_or_from_slice_get t.nodes k s.node none s.there in
      or_neither (used k m) (has_child m (node_at k)) (unused k m (omega arith) (λ j h. seen j (omega arith)))
      (ap (has_child m) e ∙ child_before k m (omega arith) s.node s.below)

  -- a child of a node is no child of one before it
  fresh : (j k c : ℕ) → j ≤ k → k < length t.nodes → has_child c (node_at k) ≡ true → used j c ≡ false
  fresh zero k c le low has = refl
  fresh (suc j) k c le low has = or_neither (used j c) (has_child c (node_at j)) (fresh j k c (omega arith) low has)
      (not_true (has_child c (node_at j))
      (λ is. let two = two_at (has_child c) t.nodes j k none (omega arith) low is has in let one = single c in absurd (omega arith)))

  module _ (k : ℕ) (low : k < length t.nodes) where
    leaf : ((i : ℕ) → used (suc k) i ≡ (used k i || false)) → weight k ≡ 1 → weighed weight (used (suc k)) k + 1 ≡ weighed weight (used k) k + weight k
    leaf each one = let same = weighed_same weight (used (suc k)) (used k) k (λ i h. each i ∙ or_false (used k i)) in omega (arith, same, one)

    -- what the node adds to what is used
    adds : (node : Node) → node_at k ≡ node → IsFine (length t.names) k node → tree_at t k ≡ made t.names (trees_of t) node
        → weighed weight (used (suc k)) k + node_size node ≡ weighed weight (used k) k + weight k
    adds (nodes.Const b) e fine tree = leaf (λ i. ap (λ n. used k i || has_child i n) e) (ap formula_size tree)
    adds (nodes.Letter n) e fine tree = leaf (λ i. ap (λ n. used k i || has_child i n) e) (ap formula_size tree)
    adds (nodes.Fresh n) e fine tree = leaf (λ i. ap (λ n. used k i || has_child i n) e) (ap formula_size tree)
    adds (nodes.Unary op a) e fine tree =
        let weighs : weight k ≡ weight a + node_size (nodes.Unary op a) = ap formula_size tree in
        let has : has_child a (node_at k) ≡ true = ap (has_child a) e ∙ eq-eqb a a refl in
        let more = weighed_more weight (used k) (used (suc k)) a k fine (fresh k k a (omega arith) low has) (or_right (used k a) (has_child a (node_at k)) has)
        (λ i n. ap (λ x. used k i || has_child i x) e ∙ (ap (λ b. used k i || b) (not_equal a i n) ∙ or_false (used k i))) in
        omega (arith, weighs, more)
    adds (nodes.Binary op a b) e fine tree =
        let weighs : weight k ≡ weight a + weight b + 1 = ap formula_size tree in
        let between : ℕ → Bool = λ i. used k i || (a == i) in
        let has_a : has_child a (node_at k) ≡ true = ap (has_child a) e ∙ or_left (a == a) (b == a) (eq-eqb a a refl) in
        let has_b : has_child b (node_at k) ≡ true = ap (has_child b) e ∙ or_right (a == b) (b == b) (eq-eqb b b refl) in
        let first = weighed_more weight (used k) between a k fine.0 (fresh k k a (omega arith) low has_a) (or_right (used k a) (a == a) (eq-eqb a a refl))
        (λ i n. ap (λ v. used k i || v) (not_equal a i n) ∙ or_false (used k i)) in
        let free : between b ≡ false = or_neither (used k b) (a == b) (fresh k k b (omega arith) low has_b) (not_equal a b (λ same. fine.2 (sym same))) in
        let second = weighed_more weight between (used (suc k)) b k fine.1 free (or_right (used k b) (has_child b (node_at k)) has_b)
        (λ i n. ap (λ x. used k i || has_child i x) e
        ∙ (ap (λ v. used k i || ((a == i) || v)) (not_equal b i n) ∙ ap (λ v. used k i || v) (or_false (a == i)))) in
        omega (arith, weighs, first, second)

  -- the sizes of the first trees, those of what is used in them, and those of the first nodes
  counted : (k : ℕ) → k ≤ length t.nodes → Seen t k → weighed weight (used k) k + total k ≡ all_weighed weight k
  counted zero le seen = refl
  counted (suc k) le seen =
      let before = counted k (omega arith) (λ j h. seen j (omega arith)) in
      let s = seen k (omega arith) in
      let e = get_or_from_slice_get t.nodes k s.node none s.there in
      let a = adds k (omega arith) s.node e s.below s.tree in
      let top : cond (used (suc k) k) (weight k) 0 ≡ 0 = ap (λ b. cond b (weight k) 0) (unused (suc k) k (omega arith) seen) in
      let size : node_size (node_at k) ≡ node_size s.node = ap node_size e in
      omega (arith, before, a, top, size)

  total_drop : (k : ℕ) → k ≤ length t.nodes → total k + sizes (drop k t.nodes) ≡ sizes t.nodes
  total_drop zero le = omega arith
  total_drop (suc k) le =
      let before = total_drop k (omega arith) in
      let cut : sizes (drop k t.nodes) ≡ node_size (node_at k) + sizes (drop (suc k) t.nodes) = ap sizes (drop-cons t.nodes k none (omega arith)) in
      omega (arith, before, cut)

  pub small_tree : (k : ℕ) → k < length t.nodes → Seen t (suc k) → formula_size (tree_at t k) ≤ sizes t.nodes
  small_tree k low seen =
      let c = counted (suc k) (omega arith) seen in
      let top : cond (used (suc k) k) (weight k) 0 ≡ 0 = ap (λ b. cond b (weight k) 0) (unused (suc k) k (omega arith) seen) in
      let part = at_most_all weight (used (suc k)) k in
      let whole = total_drop (suc k) (omega arith) in
      omega (arith, c, top, part, whole)
