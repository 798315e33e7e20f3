-- The walk that makes a part of each marked node.
use Rattle.std.proofs.Common.{◌≡◌, ℕ, zero, suc, ◌+◌, ◌-◌, ◌<◌, ◌≤◌, Bool, true, false, ◌==◌, List, [], ◌∷◌, ◌++◌, length, length-append, take, cond}
use Rattle.std.proofs.Common.{slice_index_or, refl, sym, ◌∙◌, ap, ap₂, subst, arith, eq-eqb, true≢false, inl, inr}
use Rattle.std.proofs.Common.{Result, Ok, Err, IsErr, IsErrAnd}
use Rattle.std.proofs.Math.ListN.{get_or-append}
use Rattle.std.proofs.Math.Seq.{get_or-append_seam}
use Rattle.std.specs.List.{count_by}
use Rattle.std.proofs.lemmas.Bool.{cases_lt, or_left, or_right}
use Rattle.std.proofs.lemmas.List.{take_all}
use Rattle.std.proofs.lemmas.List.Sums.{sum_by-cons}
use Rattle.ltl_syntax.specs.declared.node.Node.{Node}
use Rattle.ltl_syntax.specs.declared.node.Node.TheVariants as nodes
use Rattle.ltl_syntax.specs.Formula.{Formula, Const, Unary, Binary}
use Rattle.ltl_syntax.specs.Table.{Table, tree_at, trees_of, made, has_child, IsFine, IsTable}
use Rattle.ltl_syntax.specs.Under.{IsUnder, Here, Below, AreMarksUnder}
use Rattle.ltl_syntax.proofs.Trees.{node_tree, node_fine}
use Rattle.ltl_syntax.proofs.Under.{under_has}
use Rattle.ltl_syntax.specs.Roots.{HasChildrenBelow}
use Rattle.past_monitor.specs.declared.part.Part.{Part}
use Rattle.past_monitor.specs.declared.refused.MonitorRefused.{MonitorRefused}
use Rattle.past_monitor.specs.Past.{IsPast}
use Rattle.past_monitor.specs.Ring.{RingValue}
use Rattle.past_monitor.specs.Monitor.{formula_at, AreUnder}
use Rattle.past_monitor.specs.Part.{no_ring, ring_of, value_at, IsNamed, IsPart, IsPartOf, IsPastNode, LooksAhead, AreParts, AreFresh, formulas_of}
use Rattle.past_monitor.specs.Part.{part_at, moved}
use Rattle.past_monitor.proofs.Parts.{no_values₂}
use Rattle.past_monitor.proofs.Trees.{formulas_of-push, length-formulas}

abbrev pub place_at : List ℕ → ℕ → ℕ
place_at places i = slice_index_or places i 0

-- how many marks there are
abbrev pub marked_in : List Bool → ℕ
marked_in marks = count_by (λ mark. mark) marks

-- one place more
abbrev weight : Bool → ℕ
weight mark = cond mark 1 0

marked_more : (marks : List Bool) (n : ℕ) → marked_in (take (suc n) marks) ≡ marked_in (take n marks) + weight (value_at marks n)
marked_more [] zero = omega arith
marked_more [] (suc n) = omega arith
marked_more (x ∷ xs) zero = omega (arith, sum_by-cons weight x [])
marked_more (x ∷ xs) (suc n) =
    omega (arith, sum_by-cons weight x (take (suc n) xs), sum_by-cons weight x (take n xs), marked_more xs n)

-- the node's formula stands at this place among the formulas
abbrev pub IsAt : Table → List Formula → ℕ → ℕ → Type 0
IsAt t formulas place i = (place < length formulas) × (formula_at formulas place ≡ tree_at t i)

-- each of the first nodes that is marked has a place among the parts, and the last of them the last place
pub record ArePlaced (t : Table) (marks : List Bool) (number : ℕ) (places : List ℕ) (parts : List Part) : Type 0 where
  pub long : length places ≡ number
  pub few : length parts ≤ number
  pub count : length parts ≡ marked_in (take number marks)
  pub are : AreParts t.names parts
  pub fresh : AreFresh parts
  pub placed : (i : ℕ) → i < number → value_at marks i ≡ true → IsAt t (formulas_of t.names parts) (place_at places i) i
  pub last : (i : ℕ) → suc i ≡ number → value_at marks i ≡ true → place_at places i + 1 ≡ length parts

pub begun : (t : Table) (marks : List Bool) → ArePlaced t marks 0 [] []
begun t marks = record {
  long = refl;
  few = omega arith;
  count = refl;
  are = record { each = λ i lt. absurd (omega arith); past = λ i lt. absurd (omega arith) };
  fresh = λ i lt. absurd (omega arith);
  placed = λ i lt. absurd (omega arith);
  last = λ i e. absurd (omega arith);
}

-- a node over places is the same formula
module _ (t : Table) (formulas : List Formula) (places : List ℕ) (number : ℕ)
    (past : (place : ℕ) → place < length formulas → IsPast (formula_at formulas place)) where
  pub moved_right : (node : Node) → IsFine (length t.names) number node → IsPastNode node
      → ((child : ℕ) → child < number → has_child child node ≡ true → IsAt t formulas (place_at places child) child)
      → HasChildrenBelow (length formulas)
      (moved places node) × (made t.names formulas (moved places node) ≡ made t.names (trees_of t) node) × IsPast (made t.names formulas (moved places node))
  moved_right (nodes.Const b) fine p at = (tt, refl, tt)
  moved_right (nodes.Letter n) fine p at = (tt, refl, tt)
  moved_right (nodes.Fresh n) fine p at = (tt, refl, tt)
  moved_right (nodes.Unary op a) fine p at =
      let x = at a fine (eq-eqb a a refl) in
      (x.0, ap (Unary op) x.1, (p, past (place_at places a) x.0))
  moved_right (nodes.Binary op a b) fine p at =
      let x = at a fine.0 (or_left (a == a) (b == a) (eq-eqb a a refl)) in
      let y = at b fine.1 (or_right (a == b) (b == b) (eq-eqb b b refl)) in
      ((x.0, y.0), ap₂ (Binary op) x.1 y.1, (p, past (place_at places a) x.0, past (place_at places b) y.0))

-- a new ring is that of its node, and has no values
new_values : (node : Node) → (ring_of node []).values ≡ []
new_values (nodes.Binary op a b) = no_values₂ op
new_values other = refl

fresh_values : (node : Node) (r : RingValue) → r ≡ ring_of node [] → r.values ≡ []
fresh_values node r e = ap (λ (s : RingValue). s.values) e ∙ new_values node

fresh_ring : (node : Node) (r : RingValue) → r ≡ ring_of node [] → r ≡ ring_of node r.values
fresh_ring node r e = e ∙ ap (ring_of node) (sym (fresh_values node r e))

module _ (t : Table) (marks : List Bool) (number : ℕ) (places places' : List ℕ) (parts : List Part) (is : ArePlaced t marks number places parts)
    (more : places' ≡ places ++ length parts ∷ []) where
  still : (i : ℕ) → i < number → place_at places' i ≡ place_at places i
  still i lt = ap (λ ps. place_at ps i) more ∙ get_or-append places (length parts ∷ []) 0 i (omega (arith, is.long))

  new_place : place_at places' number ≡ length parts
  new_place = ap (λ ps. place_at ps number) more
      ∙ subst (λ k. place_at (places ++ length parts ∷ []) k ≡ length parts) is.long (get_or-append_seam places (length parts) [] 0)

  longer : length places' ≡ suc number
  longer = ap length more ∙ (length-append places (length parts ∷ []) ∙ omega (arith, is.long))

  placed_still : (i : ℕ) → i < number → value_at marks i ≡ true → IsAt t (formulas_of t.names parts) (place_at places' i) i
  placed_still i lt mark = subst (λ p. IsAt t (formulas_of t.names parts) p i) (sym (still i lt)) (is.placed i lt mark)

  -- a node that is not marked
  pub passed : value_at marks number ≡ false → ArePlaced t marks (suc number) places' parts
  passed none = record {
    long = longer;
    few = omega (arith, is.few);
    count = omega (arith, is.count, marked_more marks number, ap weight none);
    are = is.are;
    fresh = is.fresh;
    placed = λ i lt mark. elim (cases_lt i number) [
      | inl less ↦ placed_still i less mark
      | inr ge ↦ let e : i ≡ number = omega arith in absurd (true≢false (sym mark ∙ (ap (value_at marks) e ∙ none)))
    ];
    last = λ i e mark. let f : i ≡ number = omega arith in absurd (true≢false (sym mark ∙ (ap (value_at marks) f ∙ none)));
  }

  -- a marked node, and its part
  pub added : (root : ℕ) (p : Part) (parts' : List Part) → IsTable t.nodes t.names → AreMarksUnder t root marks → value_at marks number ≡ true
      → IsPartOf t places' number p → parts' ≡ parts ++ p ∷ [] → ArePlaced t marks (suc number) places' parts'
  added root p parts' table under mark of e =
      let node = of.node in
      let is_node = of.over in
      let formulas = formulas_of t.names parts in
      let count = length-formulas t.names parts in
      let right = moved_right t formulas places' number (λ place lt. is.are.past place (omega (arith, count))) node
      (node_fine t table number node of.at) of.past
      (λ child lt has. placed_still child lt ((under child).1 (Below number child node ((under number).0 mark) of.at has))) in
      let pushed : formulas_of t.names parts' ≡ formulas ++ made t.names formulas (moved places' node) ∷ [] =
      ap (formulas_of t.names) e ∙ (formulas_of-push t.names parts p ∙ ap (λ n. formulas ++ made t.names formulas n ∷ []) is_node) in
      let long' : length parts' ≡ suc (length parts) = ap length e ∙ (length-append parts (p ∷ []) ∙ omega arith) in
      let old_formula : (i : ℕ) → i < length parts → formula_at (formulas_of t.names parts') i ≡ formula_at formulas i = λ i lt.
      ap (λ fs. formula_at fs i) pushed ∙ get_or-append formulas (made t.names formulas (moved places' node) ∷ []) (Const false) i (omega (arith, count)) in
      let new_formula : formula_at (formulas_of t.names parts') (length parts) ≡ made t.names formulas (moved places' node) =
      ap (λ fs. formula_at fs (length parts)) pushed
      ∙ subst (λ k. formula_at (formulas ++ made t.names formulas (moved places' node) ∷ []) k ≡ made t.names formulas (moved places' node)) count
      (get_or-append_seam formulas (made t.names formulas (moved places' node)) [] (Const false)) in
      let blank : Part = record { node = nodes.Const false; name = []; kept = no_ring [] } in
      let old_part : (i : ℕ) → i < length parts → part_at parts' i ≡ part_at parts i =
      λ i lt. ap (λ ps. part_at ps i) e ∙ get_or-append parts (p ∷ []) blank i lt in
      let new_part : part_at parts' (length parts) ≡ p = ap (λ ps. part_at ps (length parts)) e ∙ get_or-append_seam parts p [] blank in
      let below : HasChildrenBelow (length parts) (moved places' node) = subst (λ k. HasChildrenBelow k (moved places' node)) count right.0 in
      let part_fine : IsPart t.names (length parts) p = record {
        below = subst (HasChildrenBelow (length parts)) (sym is_node) below;
        named = subst (λ n. IsNamed t.names n p.name) (sym is_node) of.named;
        ring = subst (λ n. p.kept ≡ ring_of n p.kept.values) (sym is_node) (fresh_ring (moved places' node) p.kept of.ring);
      } in
      record {
        long = longer;
        few = omega (arith, is.few, long');
        count = omega (arith, is.count, marked_more marks number, ap weight mark, long');
        are = record {
          each = λ i lt. elim (cases_lt i (length parts)) [
            | inl less ↦ subst (IsPart t.names i) (sym (old_part i less)) (is.are.each i less)
            | inr ge ↦ let f : length parts ≡ i = omega (arith, long') in
                subst (λ k. IsPart t.names k (part_at parts' k)) f (subst (IsPart t.names (length parts)) (sym new_part) part_fine)
          ];
          past = λ i lt. elim (cases_lt i (length parts)) [
            | inl less ↦ subst IsPast (sym (old_formula i less)) (is.are.past i less)
            | inr ge ↦ let f : length parts ≡ i = omega (arith, long') in
                subst (λ k. IsPast (formula_at (formulas_of t.names parts') k)) f (subst IsPast (sym new_formula) right.2)
          ];
        };
        fresh = λ i lt. elim (cases_lt i (length parts)) [
          | inl less ↦ ap (λ (q : Part). q.kept.values) (old_part i less) ∙ is.fresh i less
          | inr ge ↦
              let f : length parts ≡ i = omega (arith, long') in
              subst (λ k. (part_at parts' k).kept.values ≡ []) f (ap (λ (q : Part). q.kept.values) new_part ∙ fresh_values (moved places' node) p.kept of.ring)
        ];
        placed = λ i lt m. elim (cases_lt i number) [
          | inl less ↦
              let w = placed_still i less m in
              let low : place_at places' i < length parts = omega (arith, w.0, count) in
              (omega (arith, low, length-formulas t.names parts', long'), old_formula (place_at places' i) low ∙ w.1)
          | inr ge ↦
              let f : number ≡ i = omega arith in
              subst (λ k. IsAt t (formulas_of t.names parts') (place_at places' k) k) f (
                omega (arith, new_place, length-formulas t.names parts', long'),
                ap (formula_at (formulas_of t.names parts')) new_place ∙ (new_formula ∙ (right.1 ∙ sym (node_tree t table number node of.at))),
              )
        ];
        last = λ i f m. let g : i ≡ number = omega arith in let h : place_at places' i ≡ length parts = ap (place_at places') g ∙ new_place in
            omega (arith, h, long');
      }

-- ---- a marked node that looks ahead is one under the root, which then looks ahead

past_node : (names : List (List ℕ)) (trees : List Formula) (node : Node) → IsPast (made names trees node) → IsPastNode node
past_node names trees (nodes.Unary op a) p = p.0
past_node names trees (nodes.Binary op a b) p = p.0
past_node names trees other p = tt

-- an error that is passed on
pub passed_on : {A : Type 0} (e f : MonitorRefused) (r : Result A MonitorRefused) → IsErr r × IsErrAnd r (λ x. x ≡ e) → r ≡ Err f → e ≡ f
passed_on e f (Ok x) w is = let ok = w.0 in cc
passed_on e f (Err x) w is = let same : x ≡ f = cc in sym w.1 ∙ same

pub refused : (t : Table) → IsTable t.nodes t.names → (root number : ℕ) → IsUnder t root number → LooksAhead t number → IsPast (tree_at t root) → ⊥
refused t table root number under (node, at, ahead) past =
    ahead (past_node t.names (trees_of t) node
    (subst IsPast (node_tree t table number node at) (under_has t table IsPast (λ op f p. p.1) (λ op f g p. (p.1, p.2)) root number past under)))

-- ---- the parts of all nodes up to the root, which is the last

module _ (t : Table) (root : ℕ) (marks : List Bool) (places : List ℕ) (parts : List Part) (number : ℕ) (end : number ≡ root + 1)
    (long : length marks ≡ root + 1) (under : AreMarksUnder t root marks) (is : ArePlaced t marks number places parts) where
  top : value_at marks root ≡ true
  top = (under root).1 (Here root refl)

  pub some_parts : 0 < length parts
  some_parts = let l = is.last root (omega (arith, end)) top in omega arith

  pub root_last : formula_at (formulas_of t.names parts) (length parts - 1) ≡ tree_at t root
  root_last =
      let l = is.last root (omega (arith, end)) top in
      let w = is.placed root (omega (arith, end)) top in
      let e : place_at places root ≡ length parts - 1 = omega arith in
      ap (formula_at (formulas_of t.names parts)) (sym e) ∙ w.1

  -- and there are as many as nodes under the root
  pub all_under : AreUnder t root (length parts)
  all_under = record {
    marks = marks;
    each = under;
    count = is.count ∙ ap marked_in (take_all number marks (omega (arith, end, long)));
  }
