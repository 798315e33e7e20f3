-- The table with one node more.
use Rattle.std.proofs.Common.{◌≡◌, ℕ, ◌<◌, refl, sym, ◌∙◌, ap, subst, arith, inl, inr, Bool, true, false, ◌==◌, ◌||◌, List, [], ◌∷◌, length, slice_index_or}
use Rattle.std.specs.Prelude.{⊤}
use Rattle.std.proofs.lemmas.Bool.Decides.{eqb_tells}
use Rattle.ltl_syntax.specs.declared.node.Node.{Node}
use Rattle.ltl_syntax.specs.declared.node.Node.TheVariants as nodes
use Rattle.ltl_syntax.specs.declared.node.UnaryOp.{UnaryOp}
use Rattle.ltl_syntax.specs.declared.node.BinaryOp.{BinaryOp}
use Rattle.ltl_syntax.specs.Formula.{Formula, Const, Unary, Binary}
use Rattle.ltl_syntax.specs.Table.{Table, IsRoot, Pushes, Names, tree_at, trees_of, made, has_child}
use Rattle.depast.specs.declared.symbol.Symbol.{Symbol}
use Rattle.depast.specs.declared.symbol.Symbol.TheVariants as symbols
use Rattle.depast.specs.Symbols.{Letters, Reads}
use Rattle.depast.specs.Building.{letters_by, AreBuilt, AllBelow, MayPut}

-- none of the numbers is a child of the node
abbrev pub NoChild : Node → List ℕ → Type 0
NoChild node [] = ⊤
NoChild node (x ∷ xs) = (has_child x node ≡ false) × NoChild node xs

kept : (t t' : Table) (node : Node) → Pushes t node t' → (fs : List Formula) (rest : List ℕ) → AreBuilt t fs rest → NoChild node rest → AreBuilt t' fs rest
kept t t' node p [] rest v none = v
kept t t' node p (f ∷ fs) rest v none =
    let n : NoChild node (v.0 ∷ v.1) = subst (NoChild node) v.2 none in
    (v.0, v.1, v.2, p.roots v.0 v.3 n.0, p.others v.0 v.3.0 ∙ v.4, v.5, kept t t' node p fs v.1 v.6 n.1)

below_all : (t : Table) (fs : List Formula) (roots : List ℕ) → AreBuilt t fs roots → AllBelow (length t.nodes) roots
below_all t [] roots v = subst (AllBelow (length t.nodes)) (sym v) tt
below_all t (f ∷ fs) roots v = subst (AllBelow (length t.nodes)) (sym v.2) (v.3.0, below_all t fs v.1 v.6)

-- the node stands for g, over the roots that stay
pub built_more : (t t' : Table) (node : Node) (g : Formula) (fs : List Formula) (rest roots' : List ℕ) → Pushes t node t' → AreBuilt t fs rest
    → NoChild node rest → made t.names (trees_of t) node ≡ g
    → roots' ≡ length t.nodes ∷ rest → AreBuilt t' (g ∷ fs) roots'
built_more t t' node g fs rest roots' p v none is e = (length t.nodes, rest, e, p.root, p.tree ∙ is, below_all t fs rest v, kept t t' node p fs rest v none)

-- ---- leaves

pub no_child_const : (b : Bool) (xs : List ℕ) → NoChild (nodes.Const b) xs
no_child_const b [] = tt
no_child_const b (x ∷ xs) = (refl, no_child_const b xs)

pub no_child_letter : (n : ℕ) (xs : List ℕ) → NoChild (nodes.Letter n) xs
no_child_letter n [] = tt
no_child_letter n (x ∷ xs) = (refl, no_child_letter n xs)

pub no_child_fresh : (n : ℕ) (xs : List ℕ) → NoChild (nodes.Fresh n) xs
no_child_fresh n [] = tt
no_child_fresh n (x ∷ xs) = (refl, no_child_fresh n xs)

-- ---- operators

not_equal : (a b : ℕ) → b < a → (a == b) ≡ false
not_equal a b lt = elim (eqb_tells a b) [ inl w ↦ let e = w.1 in absurd (omega arith) | inr w ↦ w.0 ]

neither : (x y : Bool) → x ≡ false → y ≡ false → (x || y) ≡ false
neither false false e f = refl
neither true y e f = absurd (cc)
neither false true e f = absurd (cc)

no_child_unary : (op : UnaryOp) (a : ℕ) (xs : List ℕ) → AllBelow a xs → NoChild (nodes.Unary op a) xs
no_child_unary op a [] h = tt
no_child_unary op a (x ∷ xs) h = (not_equal a x h.0, no_child_unary op a xs h.1)

no_child_binary : (op : BinaryOp) (a b : ℕ) (xs : List ℕ) → AllBelow a xs → a < b → NoChild (nodes.Binary op a b) xs
no_child_binary op a b [] h lt = tt
no_child_binary op a b (x ∷ xs) h lt = let x_low = h.0 in
    (neither (a == x) (b == x) (not_equal a x h.0) (not_equal b x (omega arith)), no_child_binary op a b xs h.1 lt)

pub unary_built : (l : Letters) (t t' : Table) (op : UnaryOp) (a : ℕ) (fs gs : List Formula) (roots rest roots' : List ℕ)
    → roots ≡ a ∷ rest → Pushes t (nodes.Unary op a) t' → roots' ≡ length t.nodes ∷ rest
    → AreBuilt t fs roots → Reads l (symbols.Unary op ∷ []) fs gs → AreBuilt t' gs roots'
unary_built l t t' op a [] gs roots rest roots' e p on v h = absurd h
unary_built l t t' op a (f ∷ fs) gs roots rest roots' e p on v h =
    let n : v.0 ≡ a = cc in
    let r : v.1 ≡ rest = cc in
    let built : AreBuilt t fs rest = subst (AreBuilt t fs) r v.6 in
    let low : AllBelow a rest = subst (λ m. AllBelow m rest) n (subst (AllBelow v.0) r v.5) in
    let tree : tree_at t a ≡ f = subst (λ m. tree_at t m ≡ f) n v.4 in
    subst (λ hs. AreBuilt t' hs roots') h.1
    (built_more t t' (nodes.Unary op a) (Unary op f) fs rest roots' p built (no_child_unary op a rest low) (ap (Unary op) tree) on)

pub binary_built : (l : Letters) (t t' : Table) (op : BinaryOp) (a b : ℕ) (fs gs : List Formula) (roots mid rest roots' : List ℕ)
    → roots ≡ b ∷ mid → mid ≡ a ∷ rest → Pushes t (nodes.Binary op a b) t' → roots' ≡ length t.nodes ∷ rest
    → AreBuilt t fs roots → Reads l (symbols.Binary op ∷ []) fs gs → AreBuilt t' gs roots'
binary_built l t t' op a b [] gs roots mid rest roots' e e' p on v h = absurd h
binary_built l t t' op a b (f ∷ []) gs roots mid rest roots' e e' p on v h = absurd h
binary_built l t t' op a b (g ∷ f ∷ fs) gs roots mid rest roots' e e' p on v h =
    let u = v.6 in
    let n : v.0 ≡ b = cc in
    let r : v.1 ≡ mid = cc in
    let m : u.0 ≡ a = cc in
    let q : u.1 ≡ rest = cc in
    let built : AreBuilt t fs rest = subst (AreBuilt t fs) q u.6 in
    let low : AllBelow a rest = subst (λ k. AllBelow k rest) m (subst (AllBelow u.0) q u.5) in
    let lows : AllBelow b (a ∷ rest) = subst (AllBelow b) (r ∙ e') (subst (λ k. AllBelow k v.1) n v.5) in
    let tree : tree_at t a ≡ f = subst (λ k. tree_at t k ≡ f) m u.4 in
    let tree' : tree_at t b ≡ g = subst (λ k. tree_at t k ≡ g) n v.4 in
    let is : Binary op (tree_at t a) (tree_at t b) ≡ Binary op f g = cc in
    subst (λ hs. AreBuilt t' hs roots') h
    (built_more t t' (nodes.Binary op a b) (Binary op f g) fs rest roots' p built (no_child_binary op a b rest low lows.0) is on)

-- ---- what is asked of the next symbol

pub may_put : (source t : Table) (most : ℕ) (x : Symbol) (xs : List Symbol) (fs gs : List Formula) (roots : List ℕ) → AreBuilt t fs roots
    → Reads (letters_by source most) (x ∷ xs) fs gs → MayPut source x t roots
may_put source t most (symbols.Const b) xs fs gs roots v h = tt
may_put source t most (symbols.Old n) xs fs gs roots v h = h.0
may_put source t most (symbols.Fresh n) xs fs gs roots v h = tt
may_put source t most (symbols.New n) xs fs gs roots v h = tt
may_put source t most (symbols.Unary op) xs [] gs roots v h = absurd h
may_put source t most (symbols.Unary op) xs (f ∷ fs) gs roots v h = subst (MayPut source (symbols.Unary op) t) (sym v.2) (h.0, v.3)
may_put source t most (symbols.Binary op) xs [] gs roots v h = absurd h
may_put source t most (symbols.Binary op) xs (f ∷ []) gs roots v h = absurd h
may_put source t most (symbols.Binary op) xs (g ∷ f ∷ fs) gs roots v h =
    let u = v.6 in
    let low : AllBelow v.0 (u.0 ∷ u.1) = subst (AllBelow v.0) u.2 v.5 in
    subst (MayPut source (symbols.Binary op) t) (sym v.2) (subst (λ rs. MayPut source (symbols.Binary op) t (v.0 ∷ rs)) (sym u.2) (u.3, v.3, low.0))

-- ---- a name joins the table, and the trees stay

pub named : (t t' : Table) (text : List ℕ) (number : ℕ) (fs : List Formula) (roots : List ℕ) → Names t text number t' → AreBuilt t fs roots
    → AreBuilt t' fs roots
named t t' text number [] roots is v = v
named t t' text number (f ∷ fs) roots is v = (
  v.0,
  v.1,
  v.2,
  subst (λ ns. IsRoot (record { nodes = ns; names = t'.names }) v.0) (sym is.nodes) v.3,
  ap (λ trees. slice_index_or trees v.0 (Const false)) is.trees ∙ v.4,
  v.5,
  named t t' text number fs v.1 is v.6,
)

-- ---- the last root

pub last_built : (t : Table) (f : Formula) (roots rest : List ℕ) (root : ℕ) → AreBuilt t (f ∷ []) roots
    → roots ≡ root ∷ rest → IsRoot t root × (tree_at t root ≡ f)
last_built t f roots rest root v e =
    let n : v.0 ≡ root = cc in
    (subst (IsRoot t) n v.3, subst (λ m. tree_at t m ≡ f) n v.4)
