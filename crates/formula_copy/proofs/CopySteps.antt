-- The steps of the loop that copies marked nodes: what was copied stays so with each node more, and the copy of the root is a root.
use Rattle.std.proofs.Common.{◌≡◌, ℕ, suc, ◌<◌, ◌≤◌, ◌⊎◌, inl, inr, ◌||◌, eqb, Bool, true, false, IsTrue, IsFalse, List, [], ◌∷◌, length}
use Rattle.std.proofs.Common.{slice_get, Some, refl, sym, ap, ap₂, subst, ◌∙◌, arith, length-append}
use Rattle.std.specs.List.{list_any}
use Rattle.std.proofs.lemmas.Bool.{eqb-false}
use Rattle.ltl_syntax.specs.declared.node.Node.{Node}
use Rattle.ltl_syntax.specs.declared.node.Node.TheVariants as nodes
use Rattle.ltl_syntax.specs.Size.{HasOrder}
use Rattle.ltl_syntax.specs.Formula.{Name, Letter, Unary, Binary}
use Rattle.ltl_syntax.specs.Table.{Table, tree_at, tree_among, trees_of, made, has_child, IsRoot, MayFollow, IsTable, Pushes}
use Rattle.formula_copy.specs.Copy.{Numbers, moved, done, IsNamed, KeepsTrees, StandsOnRoots, IsUnused, IsCopied, IsNode, IsNext, IsMore}
use Rattle.formula_copy.specs.Part.{Marks}
use Rattle.ltl_syntax.proofs.Distinct.{one_parent, child_before}
use Rattle.formula_copy.proofs.Pushed.{unequal}

-- ---- tests

pub true_or_false : (b : Bool) → (b ≡ true) ⊎ (b ≡ false)
true_or_false true = inl refl
true_or_false false = inr refl

pub eqb-same : (n : ℕ) → eqb n n ≡ true
eqb-same n = go (eqb n n) refl
  where
    go : (b : Bool) → eqb n n ≡ b → b ≡ true
    go true e = refl
    go false e = absurd (eqb-false n n e refl)

pub or_left_true : (a b : Bool) → a ≡ true → (a || b) ≡ true
or_left_true true b e = refl
or_left_true false b e = absurd (cc)

pub or_right_true : (a b : Bool) → b ≡ true → (a || b) ≡ true
or_right_true true b e = refl
or_right_true false b e = e

pub neither : (a b : Bool) → (a || b) ≡ false → (a ≡ false) × (b ≡ false)
neither true b e = absurd (cc)
neither false b e = (refl, e)

pub both_false : (a b : Bool) → a ≡ false → b ≡ false → (a || b) ≡ false
both_false true b e d = absurd (cc)
both_false false b e d = d

-- a root stays one where the nodes stay
root_kept : (t t' : Table) (n : ℕ) → KeepsTrees t t' → IsRoot t n → IsRoot t' n
root_kept t t' n keeps r = subst (λ (ns : List Node). (n < length ns) × (list_any (has_child n) ns ≡ false)) (sym keeps.nodes) r

-- a node over roots may follow, once its letter has a name
pub may_follow : (s t t' : Table) (new : Numbers) (letter : ℕ) (node : Node) → StandsOnRoots t new node → HasOrder node → IsNamed s t' letter node
    → KeepsTrees t t' → MayFollow t' (moved new letter node)
may_follow s t t' new letter (nodes.Const b) roots order named keeps = tt
may_follow s t t' new letter (nodes.Letter n) roots order named keeps = named.0
may_follow s t t' new letter (nodes.Fresh n) roots order named keeps = tt
may_follow s t t' new letter (nodes.Unary op a) roots order named keeps = (root_kept t t' (new a) keeps roots, order)
may_follow s t t' new letter (nodes.Binary op a b) roots order named keeps =
    (root_kept t t' (new a) keeps roots.0, root_kept t t' (new b) keeps roots.1, roots.2)

module _ (s old t : Table) (D : Marks) (new : Numbers) (w : IsCopied s D new old t) where
  module _ (k letter : ℕ) where
    -- the copy of a node that the next one does not use is not used by its copy
    stays_unused : (node : Node) (j : ℕ) → IsNext D k node → IsTrue (D j) → has_child j node ≡ false → has_child (new j) (moved new letter node) ≡ false
    stays_unused (nodes.Const b) j next dj h = refl
    stays_unused (nodes.Letter n) j next dj h = refl
    stays_unused (nodes.Fresh n) j next dj h = refl
    stays_unused (nodes.Unary op a) j next dj h = unequal (new a) (new j) (w.apart a j (next.children a (eqb-same a)) dj (eqb-false a j h))
    stays_unused (nodes.Binary op a b) j next dj h =
        let n = neither (eqb a j) (eqb b j) h in
        both_false (eqb (new a) (new j)) (eqb (new b) (new j))
        (unequal (new a) (new j) (w.apart a j (next.children a (or_left_true (eqb a a) (eqb b a) (eqb-same a))) dj (eqb-false a j n.0)))
        (unequal (new b) (new j) (w.apart b j (next.children b (or_right_true (eqb a b) (eqb b b) (eqb-same b))) dj (eqb-false b j n.1)))

    -- nor does it use what was there before
    old_unused : (node : Node) (n : ℕ) → IsNext D k node → n < length old.nodes → has_child n (moved new letter node) ≡ false
    old_unused (nodes.Const b) n next lt = refl
    old_unused (nodes.Letter m) n next lt = refl
    old_unused (nodes.Fresh m) n next lt = refl
    old_unused (nodes.Unary op a) n next lt = let h = w.behind a (next.children a (eqb-same a)) in unequal (new a) n (λ e. omega arith)
    old_unused (nodes.Binary op a b) n next lt =
        let g = w.behind a (next.children a (or_left_true (eqb a a) (eqb b a) (eqb-same a))) in
        let h = w.behind b (next.children b (or_right_true (eqb a b) (eqb b b) (eqb-same b))) in
        both_false (eqb (new a) n) (eqb (new b) n) (unequal (new a) n (λ e. omega arith)) (unequal (new b) n (λ e. omega arith))

    -- a child of the next node is no child of a copied one
    child_unused : (node : Node) (a : ℕ) → IsTable s.nodes s.names → slice_get s.nodes k ≡ Some node → IsFalse (D k) → has_child a node ≡ true
        → IsUnused s D a
    child_unused node a table is new_one child i other di at = elim (true_or_false (has_child a other)) [
      | inr no' ↦ no'
      | inl yes' ↦
          let same = one_parent s table a i k other node at is yes' child in
          let d : IsTrue (D k) = subst (λ n. IsTrue (D n)) same di in absurd (cc)
    ]

    pub stands : (node : Node) → IsTable s.nodes s.names → IsNode s k node → IsNext D k node → StandsOnRoots t new node
    stands (nodes.Const b) table is next = tt
    stands (nodes.Letter n) table is next = tt
    stands (nodes.Fresh n) table is next = tt
    stands (nodes.Unary op a) table is next =
        let child = eqb-same a in
        w.root a (next.children a child) (child_unused (nodes.Unary op a) a table is.is next.new child)
    stands (nodes.Binary op a b) table is next =
        let left = or_left_true (eqb a a) (eqb b a) (eqb-same a) in
        let right = or_right_true (eqb a b) (eqb b b) (eqb-same b) in (
          w.root a (next.children a left) (child_unused (nodes.Binary op a b) a table is.is next.new left),
          w.root b (next.children b right) (child_unused (nodes.Binary op a b) b table is.is next.new right),
          w.apart a b (next.children a left) (next.children b right) is.fine.2,
        )

    -- the copy stands for the same tree
    same_made : (node : Node) → IsNext D k node → IsNamed s t letter node → made t.names (trees_of t) (moved new letter node) ≡ made s.names (trees_of s) node
    same_made (nodes.Const b) next named = refl
    same_made (nodes.Letter n) next named = ap (λ text. Letter (Name text)) named.1
    same_made (nodes.Fresh n) next named = refl
    same_made (nodes.Unary op a) next named = ap (Unary op) (w.tree a (next.children a (eqb-same a)))
    same_made (nodes.Binary op a b) next named =
        ap₂ (Binary op) (w.tree a (next.children a (or_left_true (eqb a a) (eqb b a) (eqb-same a))))
        (w.tree b (next.children b (or_right_true (eqb a b) (eqb b b) (eqb-same b))))

    module _ (t' : Table) (D' : Marks) (new' : Numbers) (node : Node) (table : IsTable s.nodes s.names) (is : IsNode s k node) (next : IsNext D k node)
        (named : IsNamed s t letter node) (p : Pushes t (moved new letter node) t')
        (more : IsMore D new k (length t.nodes) D' new') where
      grown : length t'.nodes ≡ suc (length t.nodes)
      grown = ap length p.nodes ∙ omega (arith, length-append t.nodes (moved new letter node ∷ []))

      -- by whether the node was copied before or is the next one
      at_each : (P : ℕ → ℕ → Type 0) → ((j : ℕ) → IsTrue (D j) → P j (new j)) → P k (length t.nodes) → (j : ℕ) → IsTrue (D' j) → P j (new' j)
      at_each P early late j dj = elim ((more.done j).0 dj) [
        | inl before ↦ subst (P j) (sym (more.others j before)) (early j before)
        | inr same ↦ subst (λ m. P m (new' m)) (sym same) (subst (P k) (sym more.here) late)
      ]

      fewer : (j : ℕ) → IsUnused s D' j → IsUnused s D j
      fewer j un i other di at = un i other ((more.done i).1 (inl di)) at

      last_unused : (j : ℕ) → IsUnused s D' j → has_child j node ≡ false
      last_unused j un = un k node ((more.done k).1 (inr refl)) is.is

      pub goes_on : IsCopied s D' new' old t'
      goes_on = record {
        size = omega (arith, grown, w.size);
        there = at_each (λ j n. n < length t'.nodes) (λ j dj. omega (arith, grown, w.there j dj)) (omega (arith, grown));
        behind = at_each (λ j n. length old.nodes ≤ n) w.behind w.size;
        apart = λ i j di dj ne. elim ((more.done i).0 di) [
          | inl bi ↦ elim ((more.done j).0 dj) [
            | inl bj ↦ λ e. w.apart i j bi bj ne (sym (more.others i bi) ∙ (e ∙ more.others j bj))
            | inr ej ↦ λ e. let f : new' j ≡ length t.nodes = ap new' ej ∙ more.here in omega (arith, w.there i bi, more.others i bi, e, f)
          ]
          | inr ei ↦ elim ((more.done j).0 dj) [
            | inl bj ↦ λ e. let f : new' i ≡ length t.nodes = ap new' ei ∙ more.here in omega (arith, w.there j bj, more.others j bj, e, f)
            | inr ej ↦ absurd (ne (ei ∙ sym ej))
          ]
        ];
        tree = at_each (λ j n. tree_at t' n ≡ tree_at s j) (λ j dj. p.others (new j) (w.there j dj) ∙ w.tree j dj)
            (p.tree ∙ (same_made node next named ∙ sym is.tree));
        root = at_each (λ j n. IsUnused s D' j → IsRoot t' n)
            (λ j dj un. p.roots (new j) (w.root j dj (fewer j un)) (stays_unused node j next dj (last_unused j un)))
            (λ un. p.root);
        below = λ a i other di at child. elim ((more.done i).0 di) [
          | inl before ↦ w.below a i other before at child
          | inr same ↦
              let one : node ≡ other = let e = ap (slice_get s.nodes) same in let f = is.is in cc in
              subst (λ m. a < m) (sym same) (child_before s table k node is.is a (subst (λ n. has_child a n ≡ true) (sym one) child))
        ];
        others = λ n lt. p.others n (omega (arith, w.size)) ∙ w.others n lt;
        roots = λ n r. p.roots n (w.roots n r) (old_unused node n next r.0);
      }

  pub names_stay : (t' : Table) → KeepsTrees t t' → IsCopied s D new old t'
  names_stay t' keeps = record {
    size = subst (λ (ns : List Node). length old.nodes ≤ length ns) (sym keeps.nodes) w.size;
    there = λ j dj. subst (λ (ns : List Node). new j < length ns) (sym keeps.nodes) (w.there j dj);
    behind = w.behind;
    apart = w.apart;
    tree = λ j dj. ap (λ ts. tree_among ts (new j)) keeps.trees ∙ w.tree j dj;
    root = λ j dj un. root_kept t t' (new j) keeps (w.root j dj un);
    below = w.below;
    others = λ n lt. ap (λ ts. tree_among ts n) keeps.trees ∙ w.others n lt;
    roots = λ n r. root_kept t t' n keeps (w.roots n r);
  }

pub starts : (s t : Table) (D : Marks) (new : Numbers) → ((n : ℕ) → IsFalse (D n)) → IsCopied s D new t t
starts s t D new none = record {
  size = omega arith;
  there = λ j dj. absurd (never j dj);
  behind = λ j dj. absurd (never j dj);
  apart = λ i j di dj ne. absurd (never j dj);
  tree = λ j dj. absurd (never j dj);
  root = λ j dj. absurd (never j dj);
  below = λ a i node di. absurd (never i di);
  others = λ n lt. refl;
  roots = λ n r. r;
}
  where
    never : (j : ℕ) → IsTrue (D j) → ⊥
    never j dj = let f = none j in cc

pub ends : (s old t : Table) (D : Marks) (new : Numbers) (root : ℕ) → IsCopied s D new old t → IsTrue (D root) → ((n : ℕ) → IsTrue (D n) → n ≤ root)
    → IsRoot t (new root) × (tree_at t (new root) ≡ tree_at s root)
ends s old t D new root w done low = (w.root root done unused, w.tree root done)
  where
    unused : IsUnused s D root
    unused i node di at = elim (true_or_false (has_child root node))
        [ inl yes' ↦ let under = w.below root i node di at yes' in let over = low i di in absurd (omega arith) | inr no' ↦ no' ]
