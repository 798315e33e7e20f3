-- A tree or a node put behind what a table has, and joined to it.
use Rattle.std.proofs.Common.{◌≡◌, ◌∙◌, ℕ, length, Option, Some, None, sym, ap, subst, arith}
use Rattle.ltl_syntax.specs.declared.node.Node.TheVariants as nodes
use Rattle.ltl_syntax.specs.declared.node.UnaryOp.TheVariants.{Not}
use Rattle.ltl_syntax.specs.declared.node.BinaryOp.TheVariants.{And}
use Rattle.ltl_syntax.specs.Formula.{Formula, Unary, Binary}
use Rattle.ltl_syntax.specs.Size.{formula_size}
use Rattle.ltl_syntax.specs.Table.{Table, tree_at, IsRoot, MayFollow, Pushes}
use Rattle.formula_copy.specs.Copy.{IsPut, IsPutOn}
use Rattle.formula_copy.proofs.Pushed.{pushed_size, pushed_length, unequal}
use Rattle.requirement_questions.specs.Joining.{StandsIn, IsPartPut, joined_at, IsBuilt, IsAdded}

-- ---- one formula

pub tree_stands : (s old t : Table) (root number : ℕ) → IsPut s root old t (Some number) → StandsIn (tree_at s root) old t number
tree_stands s old t root number h = record {
  behind = h.0.behind;
  is_root = h.0.is_root;
  tree = h.0.tree;
  others = h.0.others;
  roots = h.0.roots;
  sizes = h.1.sizes;
  names = h.1.names;
}

pub not_stands : (f : Formula) (old middle t : Table) (number at : ℕ) → StandsIn f old middle number → (at ≡ length middle.nodes)
    → Pushes middle (nodes.Unary Not number) t → StandsIn (Unary Not f) old t at
not_stands f old middle t number at w e p = record {
  behind = omega (arith, w.behind, w.is_root.0, e);
  is_root = subst (IsRoot t) (sym e) p.root;
  tree = ap (tree_at t) e ∙ (p.tree ∙ ap (Unary Not) w.tree);
  others = λ n lt. p.others n (omega (arith, w.behind, w.is_root.0)) ∙ w.others n lt;
  roots = λ n r. p.roots n (w.roots n r) (unequal number n (λ e'. let lt = r.0 in omega (arith, w.behind)));
  sizes = omega (arith, pushed_size p, w.sizes);
  names = let same = ap length p.names in omega (arith, pushed_length p, same, w.names);
}

-- ---- joined to what was there

pub may_join : (f : Formula) (old middle : Table) (before number : ℕ) → IsBuilt old (Some before) → StandsIn f old middle number
    → MayFollow middle (nodes.Binary And before number)
may_join f old middle before number b w = (
  w.roots before b.there,
  w.is_root,
  λ e. let lt = b.there.0 in omega (arith, w.behind, e),
)

pub joined : (f : Formula) (old middle t : Table) (before number at : ℕ) → IsBuilt old (Some before) → StandsIn f old middle number → (at ≡ length middle.nodes)
    → Pushes middle (nodes.Binary And before number) t
    → IsAdded (joined_at old (Some before)) f t (Some at)
joined f old middle t before number at b w e p =
    let tree : tree_at t at ≡ Binary And (tree_at old before) f =
    ap (tree_at t) e ∙ (p.tree ∙ (ap (λ x. Binary And x (tree_at middle number)) (w.others before b.there.0) ∙ ap (Binary And (tree_at old before)) w.tree)) in (
      record {
        there = subst (IsRoot t) (sym e) p.root;
        sizes = let s = ap formula_size tree in omega (arith, pushed_size p, w.sizes, b.sizes, s);
        names = let same = ap length p.names in omega (arith, pushed_length p, same, w.names);
      },
      tree,
    )

-- ---- what comes of a node on top

pub not_put : (f : Formula) (old middle t : Table) (number : ℕ) (r : Option ℕ) → StandsIn f old middle number → IsPutOn (nodes.Unary Not number) middle t r
    → IsPartPut (Unary Not f) old t r
not_put f old middle t number (Some at) w h = not_stands f old middle t number at w h.0 h.1
not_put f old middle t number None w h = omega (arith, w.sizes, h.1)

pub and_put : (f : Formula) (old middle t : Table) (before number : ℕ) (r : Option ℕ) → IsBuilt old (Some before) → StandsIn f old middle number
    → IsPutOn (nodes.Binary And before number) middle t r
    → IsAdded (joined_at old (Some before)) f t r
and_put f old middle t before number (Some at) b w h = joined f old middle t before number at b w h.0 h.1
and_put f old middle t before number None b w h = omega (arith, w.sizes, b.sizes, h.1)
