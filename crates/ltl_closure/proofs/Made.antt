-- The trees of a table: the subtrees of each are among them, and their sizes add up to those of the nodes.
use Rattle.std.proofs.Common.{◌≡◌, ℕ, ◌+◌, ◌⊎◌, inl, inr, false, refl, sym, subst, arith, List, [], ◌∷◌, ◌++◌, length, Contains}
use Rattle.std.proofs.Math.ListN.{get_or-eq_default}
use Rattle.std.proofs.lemmas.Bool.{cases_lt}
use Rattle.std.proofs.lemmas.List.Elements.{Contains-get_or, Contains-append_left, Contains-push_cases}
use Rattle.ltl_syntax.specs.declared.node.Node.{Node}
use Rattle.ltl_syntax.specs.declared.node.Node.TheVariants as nodes
use Rattle.ltl_syntax.specs.Formula.{Formula, Const, Letter, Unary, Binary}
use Rattle.ltl_syntax.specs.Size.{operator_size, node_size, sizes}
use Rattle.ltl_syntax.specs.Table.{Table, tree_among, made, trees_after, trees_of}
use Rattle.ltl_closure.proofs.Lists.{Contains-nil, Contains-cons_cases}
use Rattle.ltl_closure.proofs.Entries.{one_of}

-- trees with their subtrees: a missing child counts as `false`
abbrev pub IsAmong : List Formula → Formula → Type 0
IsAmong trees f = Contains trees f ⊎ (f ≡ Const false)

abbrev pub children : Formula → List Formula
children (Const b) = []
children (Letter p) = []
children (Unary op a) = a ∷ []
children (Binary op a b) = a ∷ b ∷ []

abbrev pub AreMade : List Formula → Type 0
AreMade trees = (f g : Formula) → Contains trees f → Contains (children f) g → IsAmong trees g

pub among_at : (trees : List Formula) (n : ℕ) → IsAmong trees (tree_among trees n)
among_at trees n = elim (cases_lt n (length trees)) [
  | inl lt ↦ inl (Contains-get_or trees n (Const false) lt)
  | inr ge ↦ inr (get_or-eq_default trees (Const false) (omega arith))
]

made_children : (names : List (List ℕ)) (trees : List Formula) (node : Node) (g : Formula) → Contains (children (made names trees node)) g → IsAmong trees g
made_children names trees (nodes.Const b) g c = absurd (Contains-nil g c)
made_children names trees (nodes.Letter n) g c = absurd (Contains-nil g c)
made_children names trees (nodes.Fresh n) g c = absurd (Contains-nil g c)
made_children names trees (nodes.Unary op a) g c = subst (IsAmong trees) (one_of (tree_among trees a) g c) (among_at trees a)
made_children names trees (nodes.Binary op a b) g c = elim (Contains-cons_cases (tree_among trees a) (tree_among trees b ∷ []) g c) [
  | inl i ↦ subst (IsAmong trees) i (among_at trees a)
  | inr r ↦ subst (IsAmong trees) (one_of (tree_among trees b) g r) (among_at trees b)
]

among_more : (trees : List Formula) (t f : Formula) → IsAmong trees f → IsAmong (trees ++ t ∷ []) f
among_more trees t f h = elim h [ inl c ↦ inl (Contains-append_left trees (t ∷ []) f c) | inr e ↦ inr e ]

trees_made : (names : List (List ℕ)) (trees : List Formula) (ns : List Node) → AreMade trees → AreMade (trees_after names trees ns)
trees_made names trees [] h = h
trees_made names trees (n ∷ ns) h =
    let t = made names trees n in
    trees_made names (trees ++ t ∷ []) ns (λ f g c k. elim (Contains-push_cases trees t f c) [
      | inl old ↦ among_more trees t g (h f g old k)
      | inr here ↦ among_more trees t g (made_children names trees n g (subst (λ z. Contains (children z) g) (sym here) k))
    ])

none_made : AreMade []
none_made f g c k = absurd (Contains-nil f c)

pub all_made : (t : Table) → AreMade (trees_of t)
unfolding trees_of
all_made t = trees_made t.names [] t.nodes none_made

-- the size of a tree's topmost operator
abbrev pub top_size : Formula → ℕ
top_size (Const b) = 1
top_size (Letter p) = 1
top_size (Unary op a) = operator_size op
top_size (Binary op a b) = 1

abbrev pub top_sizes : List Formula → ℕ
top_sizes [] = 0
top_sizes (f ∷ fs) = top_size f + top_sizes fs

top_sizes-push : (fs : List Formula) (f : Formula) → top_sizes (fs ++ f ∷ []) ≡ top_sizes fs + top_size f
top_sizes-push [] f = omega arith
top_sizes-push (g ∷ fs) f = omega (arith, top_sizes-push fs f)

made_size : (names : List (List ℕ)) (trees : List Formula) (n : Node) → top_size (made names trees n) ≡ node_size n
made_size names trees (nodes.Const b) = refl
made_size names trees other = refl

pub sizes-trees : (names : List (List ℕ)) (trees : List Formula) (ns : List Node) → top_sizes (trees_after names trees ns) ≡ top_sizes trees + sizes ns
sizes-trees names trees [] = omega arith
sizes-trees names trees (n ∷ ns) =
    let e = sizes-trees names (trees ++ made names trees n ∷ []) ns in
    let m = made_size names trees n in
    omega (arith, top_sizes-push trees (made names trees n))
