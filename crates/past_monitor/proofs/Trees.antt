-- The formulas of parts: each is what its node makes of the others, and a part more brings one more.
use Rattle.std.proofs.Common.{◌≡◌, ℕ, zero, suc, ◌+◌, ◌<◌, false, List, [], ◌∷◌, ◌++◌, length, slice_index_or, refl, sym, ◌∙◌, ap, subst, arith, length-append}
use Rattle.std.proofs.Math.ListN.{get_or-append}
use Rattle.std.proofs.Math.ListN.{get_or-map}
use Rattle.std.proofs.Math.Seq.{get_or-append_seam}
use Rattle.std.proofs.lemmas.List.{length-map, map-append}
use Rattle.ltl_syntax.specs.declared.node.Node.{Node}
use Rattle.ltl_syntax.specs.declared.node.Node.TheVariants as nodes
use Rattle.ltl_syntax.specs.Formula.{Formula, Const, Unary}
use Rattle.ltl_syntax.specs.Table.{made, trees_after}
use Rattle.ltl_syntax.specs.Roots.{HasChildrenBelow}
use Rattle.past_monitor.specs.declared.part.Part.{Part}
use Rattle.past_monitor.specs.Monitor.{formula_at}
use Rattle.past_monitor.specs.Part.{no_ring, part_at, nodes_of, formulas_of, HaveChildrenBelow}

abbrev node_at : List Node → ℕ → Node
node_at ns k = slice_index_or ns k (nodes.Const false)

-- a node makes the same formula where the formulas before its place are the same
pub made_same : (names : List (List ℕ)) (place : ℕ) (old new : List Formula) → ((i : ℕ) → i < place → formula_at new i ≡ formula_at old i) → (node : Node)
    → HasChildrenBelow place node
    → made names new node ≡ made names old node
made_same names place old new same (nodes.Unary op a) f = ap (Unary op) (same a f)
made_same names place old new same (nodes.Binary op a b) f = rw (same a f.0, same b f.1) refl
made_same names place old new same other f = refl

-- the formulas that are there stay at their places
stays : (names : List (List ℕ)) (trees : List Formula) (ns : List Node) (i : ℕ) → i < length trees
    → formula_at (trees_after names trees ns) i ≡ formula_at trees i
stays names trees [] i h = refl
stays names trees (n ∷ ns) i h =
    stays names (trees ++ made names trees n ∷ []) ns i (omega (arith, length-append trees (made names trees n ∷ [])))
    ∙ get_or-append trees (made names trees n ∷ []) (Const false) i h

-- the formula at a node's place is what it makes of all the formulas
tree_after : (names : List (List ℕ)) (trees : List Formula) (ns : List Node) → ((k : ℕ) → k < length ns → HasChildrenBelow (length trees + k) (node_at ns k))
    → (k : ℕ) → k < length ns
    → formula_at (trees_after names trees ns) (length trees + k) ≡ made names (trees_after names trees ns) (node_at ns k)
tree_after names trees [] f k lt = absurd (omega arith)
tree_after names trees (n ∷ ns) f zero lt =
    let at : formula_at (trees_after names trees (n ∷ ns)) (length trees) ≡ made names trees n =
    stays names (trees ++ made names trees n ∷ []) ns (length trees) (omega (arith, length-append trees (made names trees n ∷ [])))
    ∙ get_or-append_seam trees (made names trees n) [] (Const false) in
    let zeroth : length trees + 0 ≡ length trees = omega arith in
    let below : HasChildrenBelow (length trees) n = subst (λ k. HasChildrenBelow k n) zeroth (f 0 (omega arith)) in
    rw zeroth (at ∙ sym (made_same names (length trees) trees (trees_after names trees (n ∷ ns)) (stays names trees (n ∷ ns)) n below))
tree_after names trees (n ∷ ns) f (suc k) lt =
    let longer : length (trees ++ made names trees n ∷ []) ≡ length trees + 1 = length-append trees (made names trees n ∷ []) in
    let moved : length (trees ++ made names trees n ∷ []) + k ≡ length trees + suc k = omega arith in
    rw (← moved) (tree_after names (trees ++ made names trees n ∷ []) ns
    (λ j less. let place : length trees + suc j ≡ length (trees ++ made names trees n ∷ []) + j = omega arith in
    subst (λ p. HasChildrenBelow p (node_at ns j)) place (f (suc j) (omega arith)))
    k (omega arith))

trees_after-push : (names : List (List ℕ)) (trees : List Formula) (ns : List Node) (n : Node)
    → trees_after names trees (ns ++ n ∷ []) ≡ trees_after names trees ns ++ made names (trees_after names trees ns) n ∷ []
trees_after-push names trees [] n = refl
trees_after-push names trees (x ∷ ns) n = trees_after-push names (trees ++ made names trees x ∷ []) ns n

length-trees_after : (names : List (List ℕ)) (trees : List Formula) (ns : List Node) → length (trees_after names trees ns) ≡ length trees + length ns
length-trees_after names trees [] = omega arith
length-trees_after names trees (n ∷ ns) =
    length-trees_after names (trees ++ made names trees n ∷ []) ns ∙ omega (arith, length-append trees (made names trees n ∷ []))

-- ---- the same of parts

pub node_of_part : (parts : List Part) (i : ℕ) → node_at (nodes_of parts) i ≡ (part_at parts i).node
node_of_part parts i = get_or-map (λ (p : Part). p.node) parts i (record { node = nodes.Const false; name = []; kept = no_ring [] })

pub made_at : (names : List (List ℕ)) (parts : List Part) → HaveChildrenBelow parts → (i : ℕ) → i < length parts
    → formula_at (formulas_of names parts) i ≡ made names (formulas_of names parts) (part_at parts i).node
made_at names parts below i lt =
    let same = length-map parts (λ (p : Part). p.node) in
    let zeroth : 0 + i ≡ i = omega arith in
    let whole = tree_after names [] (nodes_of parts)
    (λ k less. let at : 0 + k ≡ k = omega arith in subst (λ j. HasChildrenBelow j (node_at (nodes_of parts) k)) (sym at)
    (subst (HasChildrenBelow k) (sym (node_of_part parts k)) (below k (omega (arith, same)))))
    i (omega (arith, same)) in
    subst (λ j. formula_at (formulas_of names parts) j ≡ made names (formulas_of names parts) (part_at parts i).node) zeroth
    (whole ∙ ap (made names (formulas_of names parts)) (node_of_part parts i))

pub formulas_of-push : (names : List (List ℕ)) (parts : List Part) (p : Part)
    → formulas_of names (parts ++ p ∷ []) ≡ formulas_of names parts ++ made names (formulas_of names parts) p.node ∷ []
formulas_of-push names parts p =
    ap (trees_after names []) (map-append (λ (q : Part). q.node) parts (p ∷ [])) ∙ trees_after-push names [] (nodes_of parts) p.node

pub length-formulas : (names : List (List ℕ)) (parts : List Part) → length (formulas_of names parts) ≡ length parts
length-formulas names parts = omega (arith, length-trees_after names [] (nodes_of parts), length-map parts (λ (p : Part). p.node))
