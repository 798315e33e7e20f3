-- A stack of nodes with one more.
use Rattle.std.proofs.Common.{◌≡◌, ℕ, ◌+◌, ◌<◌, List, [], ◌∷◌, ◌++◌, length, ◌∙◌, ap, sym, arith, append_assoc}
use Rattle.std.proofs.lemmas.List.{append-nil}
use Rattle.ltl_syntax.specs.Table.{Table, tree_at}
use Rattle.requirement_report.specs.Letters.{letters_of}
use Rattle.requirement_report.specs.Walk.{node_size, stack_letters, stack_size, AreNodes}

pub letters_push : (t : Table) (ns : List ℕ) (n : ℕ) → stack_letters t (ns ++ n ∷ []) ≡ letters_of (tree_at t n) ++ stack_letters t ns
letters_push t [] n = sym (append-nil (letters_of (tree_at t n)))
letters_push t (m ∷ ns) n =
    ap (λ ls. ls ++ letters_of (tree_at t m)) (letters_push t ns n)
    ∙ append_assoc (letters_of (tree_at t n)) (stack_letters t ns) (letters_of (tree_at t m))

pub size_push : (t : Table) (ns : List ℕ) (n : ℕ) → stack_size t (ns ++ n ∷ []) ≡ node_size (tree_at t n) + stack_size t ns
size_push t [] n = omega arith
size_push t (m ∷ ns) n = omega (arith, size_push t ns n)

pub nodes_push : (t : Table) (ns : List ℕ) (n : ℕ) → AreNodes t ns → n < length t.nodes → AreNodes t (ns ++ n ∷ [])
nodes_push t [] n a i = (i, tt)
nodes_push t (m ∷ ns) n a i = (a.0, nodes_push t ns n a.1 i)

pub nodes_split : (t : Table) (ns : List ℕ) (n : ℕ) → AreNodes t (ns ++ n ∷ []) → AreNodes t ns × (n < length t.nodes)
nodes_split t [] n a = (tt, a.0)
nodes_split t (m ∷ ns) n a = let r = nodes_split t ns n a.1 in ((a.0, r.0), r.1)
