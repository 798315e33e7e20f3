-- The nodes of a formula as they come, each behind its operands.
use Rattle.std.proofs.Common.{◌≡◌, ℕ, ◌+◌, ◌<◌, ◌≤◌, refl, sym, ◌∙◌, ap, subst, arith, true, List, [], ◌∷◌, ◌++◌, length, slice_get, slice_index_or, Some}
use Rattle.std.proofs.lemmas.Option.{slice_get_within}
use Rattle.ltl_syntax.specs.declared.node.Node.{Node}
use Rattle.ltl_syntax.specs.declared.node.Node.TheVariants as nodes
use Rattle.ltl_syntax.specs.Formula.{Const, Letter, Name}
use Rattle.ltl_syntax.specs.Table.{Table, tree_at, trees_of, made}
use Rattle.depast.specs.declared.writer.Writer.{Writer}
use Rattle.depast.specs.Depast.{taken, taken₁, taken₂}
use Rattle.depast.specs.Postorder.{Ends, IsNode, operands}
use Rattle.depast.specs.Symbols.{Letters}
use Rattle.depast.specs.Writing.{IsDoneBy, MayCome, trees_at, taken_by}
use Rattle.depast.proofs.Written.{has_one, has_two}

-- some letters
abbrev pub plain_letters : Table → Letters
plain_letters t = record { many = length t.names; old = λ n. Letter (Name (slice_index_or t.names n [])); new = λ k. Const true }

pub trees_joined : (t : Table) (node : Node) (rest : List ℕ) → trees_at t (operands node ++ rest) ≡ trees_at t (operands node) ++ trees_at t rest
trees_joined t (nodes.Const b) rest = refl
trees_joined t other rest = refl

-- what a node adds to the names
taken_more : (t : Table) (node : Node) (rest : List ℕ)
    → taken_by (trees_at t (operands node ++ rest)) ≤ taken_by (trees_at t rest) + taken (made t.names (trees_of t) node)
taken_more t (nodes.Const b) rest = omega arith
taken_more t other rest = omega arith

pub taken_done : (t : Table) (order done : List ℕ) (root : ℕ) → Ends t done order root → taken_by (trees_at t done) ≤ taken (tree_at t root)
taken_done t [] done root e = let s : taken_by (trees_at t done) ≡ taken_by (trees_at t (root ∷ [])) = ap (λ xs. taken_by (trees_at t xs)) e in omega arith
taken_done t (number ∷ order) done root (node, rest, is, e, ends) =
    let later : taken_by (trees_at t (number ∷ rest)) ≤ taken (tree_at t root) = taken_done t order (number ∷ rest) root ends in
    let s : taken_by (trees_at t done) ≡ taken_by (trees_at t (operands node ++ rest)) = ap (λ xs. taken_by (trees_at t xs)) e in
    let m = taken_more t node rest in
    let here : taken (tree_at t number) ≡ taken (made t.names (trees_of t) node) = ap taken is.tree in
    omega arith

-- the next node, as it is read
pub record Comes (t : Table) (number : ℕ) (node : Node) (done order : List ℕ) (root : ℕ) : Type 0 where
  pub rest : List ℕ
  pub is : IsNode t number node
  pub operands_done : done ≡ operands node ++ rest
  pub ends : Ends t (number ∷ rest) order root

pub in_table : (t : Table) (number : ℕ) (done order order' : List ℕ) (root : ℕ) → Ends t done order root → order ≡ number ∷ order' → number < length t.nodes
in_table t number done order order' root ends e =
    let v : Ends t done (number ∷ order') root = subst (λ o. Ends t done o root) e ends in
    slice_get_within t.nodes number v.0 v.2.there

pub comes : (t : Table) (number : ℕ) (node : Node) (done order order' : List ℕ) (root : ℕ) → Ends t done order root
    → order ≡ number ∷ order' → slice_get t.nodes number ≡ Some node → Comes t number node done order' root
comes t number node done order order' root ends e at =
    let v : Ends t done (number ∷ order') root = subst (λ o. Ends t done o root) e ends in
    let both : Some v.0 ≡ Some node = sym v.2.there ∙ at in
    let one : v.0 ≡ node = cc in
    record { rest = v.1; is = subst (IsNode t number) one v.2; operands_done = subst (λ n. done ≡ operands n ++ v.1) one v.3; ends = v.4 }

pub may_come : (t : Table) (number : ℕ) (node : Node) (rest order : List ℕ) (root : ℕ) (w : Writer) (l : Letters) → IsNode t number node
    → Ends t (number ∷ rest) order root → taken (tree_at t root) ≤ 16384
    → IsDoneBy l (trees_at t (operands node ++ rest)) w → MayCome node w
may_come t number (nodes.Const b) rest order root w l is ends few done = tt
may_come t number (nodes.Letter n) rest order root w l is ends few done = tt
may_come t number (nodes.Fresh n) rest order root w l is ends few done = tt
may_come t number (nodes.Unary op a) rest order root w l is ends few done =
    let later = taken_done t order (number ∷ rest) root ends in
    let here : taken (tree_at t number) ≡ taken (tree_at t a) + taken₁ op = ap taken is.tree in
    (is.ordered, omega (arith, done.next_is), has_one l (tree_at t a) (trees_at t rest) w.row.items w.starts done.laid)
may_come t number (nodes.Binary op a b) rest order root w l is ends few done =
    let later = taken_done t order (number ∷ rest) root ends in
    let here : taken (tree_at t number) ≡ taken (tree_at t a) + taken (tree_at t b) + taken₂ op = ap taken is.tree in
    (omega (arith, done.next_is), has_two l (tree_at t a) (tree_at t b) (trees_at t rest) w.row.items w.starts done.laid)
