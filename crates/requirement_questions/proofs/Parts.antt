-- The parts that `&` joins, and what they say of the formula that was joined of others.
use Rattle.std.proofs.Common.{◌≡◌, ◌∙◌, ℕ, ◌+◌, ◌<◌, List, [], ◌∷◌, ◌++◌, map, length, reverse, Option, IfSome, refl, sym, ap, subst, arith}
use Rattle.std.specs.List.{All}
use Rattle.std.proofs.lemmas.List.{reverse-append, length-reverse}
use Rattle.std.proofs.lemmas.List.Elements.{All-nil, All-cons}
use Rattle.ltl_syntax.specs.declared.node.Kind.{Kind}
use Rattle.ltl_syntax.specs.declared.node.Node.{Node}
use Rattle.ltl_syntax.specs.declared.node.Node.TheVariants as nodes
use Rattle.ltl_syntax.specs.declared.node.BinaryOp.TheVariants as two
use Rattle.ltl_syntax.specs.Formula.{Formula}
use Rattle.ltl_syntax.specs.Table.{Table, tree_at, trees_of, made, IsFine}
use Rattle.ltl_syntax.specs.Replacement.{AreApart, rep}
use Rattle.ltl_word.specs.Holds.{Satisfies}
use Rattle.requirement_questions.specs.declared.replacing.Replaced.{Replaced}
use Rattle.requirement_questions.specs.declared.parting.Core.{Core}
use Rattle.requirement_questions.specs.Formulas.{joined_to, all_of}
use Rattle.requirement_questions.specs.Replacing.{IsReplaced, IsJoint, ArePartsOf, and_children}
use Rattle.requirement_questions.specs.Core.{parts_of, IsCoreOf}
use Rattle.requirement_questions.proofs.Conjunctions.{each_says_all}

-- ---- joints

module _ (t : Table) (number : ℕ) (low : number < length t.nodes) where
  abbrev Joins : Option (ℕ × ℕ) → Type 0
  Joins children = IfSome children (λ r. IsJoint t number r.0 r.1)

  joins : (node : Node) → tree_at t number ≡ made t.names (trees_of t) node → IsFine (length t.names) number node → Joins (and_children node)
  joins (nodes.Const b) tree fine = tt
  joins (nodes.Letter n) tree fine = tt
  joins (nodes.Fresh n) tree fine = tt
  joins (nodes.Unary op a) tree fine = tt
  joins (nodes.Binary two.And a b) tree fine = record { left_there = let x = fine.0 in omega arith; right_there = let x = fine.1 in omega arith; tree = tree }
  joins (nodes.Binary op a b) tree fine = tt

  pub is_joint : (node : Node) (children : Option (ℕ × ℕ))
      → tree_at t number ≡ made t.names (trees_of t) node → IsFine (length t.names) number node → children ≡ and_children node → Joins children
  is_joint node children tree fine e = subst Joins (sym e) (joins node tree fine)

-- ---- cutting

-- the tree under the number, and the trees of those behind it from the last on, are the tree under the root
pub record IsCut (t : Table) (root number : ℕ) (behind : List ℕ) : Type 0 where
  pub low : number < length t.nodes
  pub there : All (λ n. n < length t.nodes) (reverse behind)
  pub all : joined_to (tree_at t number) (map (tree_at t) (reverse behind)) ≡ tree_at t root

back : (xs ys : List ℕ) (x : ℕ) → ys ≡ xs ++ x ∷ [] → reverse ys ≡ x ∷ reverse xs
back xs ys x e = ap reverse e ∙ reverse-append xs (x ∷ [])

pub cut_none : (t : Table) (root : ℕ) (behind : List ℕ) → behind ≡ [] → root < length t.nodes → IsCut t root root behind
cut_none t root behind e lt = subst (IsCut t root root) (sym e) (record { low = lt; there = All-nil (λ n. n < length t.nodes); all = refl })

pub cut_more : (t : Table) (root number left right : ℕ) (behind more : List ℕ)
    → IsCut t root number behind → IsJoint t number left right → more ≡ behind ++ right ∷ [] → IsCut t root left more
cut_more t root number left right behind more cut joint e = record {
  low = joint.left_there;
  there = subst (All (λ n. n < length t.nodes)) (sym (back behind more right e))
      (All-cons (λ n. n < length t.nodes) right (reverse behind) joint.right_there cut.there);
  all = subst (λ xs. joined_to (tree_at t left) (map (tree_at t) xs) ≡ tree_at t root) (sym (back behind more right e))
      (ap (λ f. joined_to f (map (tree_at t) (reverse behind))) (sym joint.tree) ∙ cut.all);
}

pub cut_end : (t : Table) (root number count : ℕ) (behind more parts : List ℕ)
    → IsCut t root number behind → length behind + 1 ≡ count → more ≡ behind ++ number ∷ [] → parts ≡ reverse more → ArePartsOf t root count parts
cut_end t root number count behind more parts cut many e is = subst (ArePartsOf t root count) (sym (is ∙ back behind more number e)) (record {
  there = All-cons (λ n. n < length t.nodes) number (reverse behind) cut.low cut.there;
  many = omega (arith, length-reverse behind, many);
  all = cut.all;
})

-- ---- what was cut is a core

pub core_made : (c : Core) (r whole : Replaced) (count : ℕ) (parts : List ℕ)
    → c.table ≡ whole.table → c.parts.items ≡ parts → whole ≡ r → ArePartsOf r.table r.root count parts
    → (c.table ≡ r.table) × ArePartsOf c.table r.root count c.parts.items
core_made c r whole count parts table items same are =
    let e : c.table ≡ r.table = table ∙ ap (λ x. x.table) same in
    (e, subst (λ t. ArePartsOf t r.root count c.parts.items) (sym e) (subst (ArePartsOf r.table r.root count) (sym items) are))

module _ (kind : Kind) (f : Formula) (formulas : List Formula) (r : Replaced) (c : Core) where
  pub is_core : IsReplaced kind f r → c.table ≡ r.table
      → ArePartsOf c.table r.root (length formulas) c.parts.items → f ≡ all_of formulas → IsCoreOf kind formulas c
  is_core is table parts same =
      let tree : tree_at c.table r.root ≡ tree_at r.table r.root = ap (λ t. tree_at t r.root) table in
      record {
        there = parts.there;
        many = parts.many;
        places = is.places;
        apart = subst (λ g. AreApart g is.places) same is.apart;
        replaced = parts.all ∙ (tree ∙ (is.tree ∙ ap (λ g. rep g is.places) same));
        none = λ t s. is.none t s.trace s.of_kind (subst (Satisfies t) (parts.all ∙ tree) (each_says_all t (parts_of c) s.each));
      }
