-- Where the truth of what new names stand for is read.
use Rattle.std.proofs.Common.{◌≡◌, ℕ, zero, suc, ◌+◌, ◌-◌, ◌<◌, ◌≤◌, ◌↔◌, refl, sym, ◌∙◌, ap, subst, arith, Bool, true, false, ◌==◌, List, [], ◌∷◌, ◌++◌}
use Rattle.std.proofs.Common.{length, slice_index_or, append_assoc, eq-eqb}
use Rattle.std.specs.Prelude.{⊤}
use Rattle.std.proofs.lemmas.Bool.{or_left, or_right}
use Rattle.ltl_syntax.specs.declared.node.UnaryOp.{UnaryOp}
use Rattle.ltl_syntax.specs.declared.node.Node.{Node}
use Rattle.ltl_syntax.specs.declared.node.Node.TheVariants as nodes
use Rattle.ltl_syntax.specs.Formula.{Formula, Const}
use Rattle.ltl_syntax.specs.Table.{Table, tree_at, trees_of, made}
use Rattle.ltl_word.specs.Claims.{Claim}
use Rattle.ltl_word.specs.Holds.{Holds}
use Rattle.ltl_syntax.specs.Under.{IsUnder, Here, Below}
use Rattle.depast.specs.declared.sources.Source.{Source}
use Rattle.depast.specs.Lifting.{counted, meanings, meanings₁, meanings₂}
use Rattle.depast.specs.Postorder.{Ends, IsNode, operands}
use Rattle.depast.specs.Sources.{behind, IsSource, AreSources, own_meanings, meanings_by, blank_source}
use Rattle.depast.specs.Writing.{trees_at}
use Rattle.depast.proofs.Ranges.{Back, WeakBack}

-- ---- rows of sources

pub sources_push : (t : Table) (root : ℕ) (ss : List Source) (gs : List Formula) (s : Source) (g : Formula) → AreSources t root ss gs → IsSource t root s g
    → AreSources t root (ss ++ s ∷ []) (gs ++ g ∷ [])
sources_push t root [] [] s g are is = (is, tt)
sources_push t root [] (h ∷ gs) s g are is = absurd are
sources_push t root (r ∷ ss) [] s g are is = absurd are
sources_push t root (r ∷ ss) (h ∷ gs) s g are is = (are.0, sources_push t root ss gs s g are.1 is)

pub as_many : (t : Table) (root : ℕ) (ss : List Source) (gs : List Formula) → AreSources t root ss gs → length ss ≡ length gs
as_many t root [] [] are = refl
as_many t root [] (h ∷ gs) are = absurd are
as_many t root (r ∷ ss) [] are = absurd are
as_many t root (r ∷ ss) (h ∷ gs) are = ap suc (as_many t root ss gs are.1)

pub source_at : (t : Table) (root : ℕ) (ss : List Source) (gs : List Formula) (k : ℕ) → AreSources t root ss gs → k < length ss
    → IsSource t root (slice_index_or ss k blank_source) (slice_index_or gs k (Const false))
source_at t root [] [] k are lt = absurd (omega arith)
source_at t root [] (h ∷ gs) k are lt = absurd are
source_at t root (r ∷ ss) [] k are lt = absurd are
source_at t root (r ∷ ss) (h ∷ gs) zero are lt = are.0
source_at t root (r ∷ ss) (h ∷ gs) (suc k) are lt = source_at t root ss gs k are.1 (omega arith)

-- ---- one source

pub here_source : (t : Table) (root number : ℕ) → IsUnder t root number
    → IsSource t root (record { node = number; back = 0; beyond = false }) (tree_at t number)
here_source t root number under = record {
  under = under;
  says = λ u i. let e : i - 0 ≡ i = omega arith in
      (λ h. (omega arith, subst (Holds u (tree_at t number)) (sym e) h), λ w. subst (Holds u (tree_at t number)) e w.1);
}

back_says : (A : Claim) (m i : ℕ) → Back A m i ↔ ((m ≤ i) × A (i - m))
back_says A m i = (
  λ w. let e : w.0 ≡ i - m = let j = w.1 in omega arith in (let j = w.1 in omega arith, subst A e w.2),
  λ w. (i - m, let j = w.0 in omega arith, w.1),
)

weakly_says : (A : Claim) (m i : ℕ) → WeakBack A m i ↔ (m ≤ i → A (i - m))
weakly_says A m i = (
  λ h le. h (i - m) (omega arith, omega arith),
  λ h j far. let e : i - m ≡ j = omega arith in subst A e (h (omega arith)),
)

pub behind_source : (t : Table) (root a m : ℕ) (beyond : Bool) → IsUnder t root a
    → IsSource t root (record { node = a; back = m; beyond = beyond }) (behind beyond m (tree_at t a))
behind_source t root a m true under = record { under = under; says = λ u i. weakly_says (Holds u (tree_at t a)) m i }
behind_source t root a m false under = record { under = under; says = λ u i. back_says (Holds u (tree_at t a)) m i }

pub counted_more : (t : Table) (root : ℕ) (ss ss' : List Source) (gs : List Formula) (g : ℕ → Formula) (n : ℕ) (s : Source)
    → AreSources t root ss (gs ++ counted g n) → ss' ≡ ss ++ s ∷ [] → IsSource t root s (g (n + 1))
    → AreSources t root ss' (gs ++ counted g (n + 1))
counted_more t root ss ss' gs g n s are e is =
    let one : suc n ≡ n + 1 = omega arith in
    subst (λ xs. AreSources t root xs (gs ++ counted g (n + 1))) (sym e)
    (subst (λ k. AreSources t root (ss ++ s ∷ []) (gs ++ counted g k)) one
    (subst (AreSources t root (ss ++ s ∷ [])) (append_assoc gs (counted g n) (g (suc n) ∷ []))
    (sources_push t root ss (gs ++ counted g n) s (g (suc n)) are (subst (λ k. IsSource t root s (g k)) (sym one) is))))

-- ---- the nodes are under the root

AllUnder : Table → ℕ → List ℕ → Type 0
AllUnder t root [] = ⊤
AllUnder t root (x ∷ xs) = IsUnder t root x × AllUnder t root xs

pub under_one : (t : Table) (root number : ℕ) (op : UnaryOp) (a : ℕ) → IsUnder t root number → IsNode t number (nodes.Unary op a) → IsUnder t root a
under_one t root number op a under is = Below number a (nodes.Unary op a) under is.there (eq-eqb a a refl)

operands_under : (t : Table) (root number : ℕ) (node : Node) (rest : List ℕ) → IsUnder t root number → IsNode t number node → AllUnder t root rest
    → AllUnder t root (operands node ++ rest)
unfolding AllUnder
operands_under t root number (nodes.Const b) rest under is all = all
operands_under t root number (nodes.Letter n) rest under is all = all
operands_under t root number (nodes.Fresh n) rest under is all = all
operands_under t root number (nodes.Unary op a) rest under is all = (under_one t root number op a under is, all)
operands_under t root number (nodes.Binary op a b) rest under is all = (
  Below number b (nodes.Binary op a b) under is.there (or_right (a == b) (b == b) (eq-eqb b b refl)),
  (Below number a (nodes.Binary op a b) under is.there (or_left (a == a) (b == a) (eq-eqb a a refl)), all),
)

all_under : (t : Table) (root : ℕ) (order done : List ℕ) → Ends t done order root → AllUnder t root done
unfolding AllUnder
all_under t root [] done e = subst (AllUnder t root) (sym e) (Here root refl, tt)
all_under t root (number ∷ order) done (node, rest, is, e, ends) =
    let v = all_under t root order (number ∷ rest) ends in
    subst (AllUnder t root) (sym e) (operands_under t root number node rest v.0 is v.1)

pub first_under : (t : Table) (root : ℕ) (order : List ℕ) (number : ℕ) (rest : List ℕ) → Ends t (number ∷ rest) order root → IsUnder t root number
unfolding AllUnder
first_under t root order number rest ends = (all_under t root order (number ∷ rest) ends).0

-- ---- what the names of a node add

pub own_added : (t : Table) (number : ℕ) (node : Node) (rest : List ℕ) → tree_at t number ≡ made t.names (trees_of t) node
    → meanings_by (trees_at t (operands node ++ rest)) ++ own_meanings t node ≡ meanings_by (trees_at t (number ∷ rest))
own_added t number node rest e = by node ∙ ap (λ f. meanings_by (trees_at t rest) ++ meanings f) (sym e) where
  by : (node : Node)
      → meanings_by (trees_at t (operands node ++ rest)) ++ own_meanings t node ≡ meanings_by (trees_at t rest) ++ meanings (made t.names (trees_of t) node)
  by (nodes.Const b) = refl
  by (nodes.Letter n) = refl
  by (nodes.Fresh n) = refl
  by (nodes.Unary op a) = append_assoc (meanings_by (trees_at t rest)) (meanings (tree_at t a)) (meanings₁ op (tree_at t a))
  by (nodes.Binary op a b) =
      append_assoc (meanings_by (trees_at t rest) ++ meanings (tree_at t a)) (meanings (tree_at t b)) (meanings₂ op (tree_at t a) (tree_at t b))
      ∙ append_assoc (meanings_by (trees_at t rest)) (meanings (tree_at t a)) (meanings (tree_at t b) ++ meanings₂ op (tree_at t a) (tree_at t b))
