-- A tree that is put together again behind the nodes of a table.
use Rattle.std.proofs.Common.{◌≡◌, zero, suc, ◌<◌, ◌⊎◌, false, inl, inr, List, ◌∷◌, ◌++◌, length, get_or, Some, refl, sym, ap, ap₂, subst, ◌∙◌, arith, [], ℕ}
use Rattle.std.specs.List.{slice_get}
use Rattle.std.proofs.lemmas.List.{get_or-map}
use Rattle.std.proofs.lemmas.Option.{slice_get-get_or}
use Rattle.ltl_syntax.specs.declared.node.Node.{Node}
use Rattle.ltl_syntax.specs.declared.node.Node.TheVariants as nodes
use Rattle.ltl_syntax.specs.Formula.{Formula, Const, Unary, Binary}
use Rattle.ltl_syntax.specs.Table.{Table, IsFine, tree_at, tree_among, trees_of, made}
use Rattle.requirement_document.specs.Substitution.{Definitions, substituted}
use Rattle.requirement_document.specs.Inner.{IsAt, AreAt, Keeps, trees_under, put_over}

pub keeps_on : (a b c : Table) → Keeps a b → Keeps b c → Keeps a c
keeps_on a b c x y = record { longer = omega (arith, x.longer, y.longer); others = λ n h. y.others n (omega (arith, x.longer)) ∙ x.others n h }

pub at_kept : (t u : Table) (f : Formula) (n : ℕ) → Keeps t u → IsAt t f n → IsAt u f n
at_kept t u f n k a = record { there = omega (arith, k.longer, a.there); tree = k.others n a.there ∙ a.tree }

-- a formula that is the same
pub at_same : (t : Table) (f g : Formula) (n : ℕ) → f ≡ g → IsAt t f n → IsAt t g n
at_same t f g n e a = subst (λ h. IsAt t h n) e a

get_more : (xs : List ℕ) (x i m : ℕ) → slice_get (xs ++ x ∷ []) i ≡ Some m → (slice_get xs i ≡ Some m) ⊎ ((i ≡ length xs) × (m ≡ x))
get_more [] x zero m e = let h : m ≡ x = cc in inr (refl, h)
get_more [] x (suc i) m e = absurd (cc)
get_more (y ∷ xs) x zero m e = inl e
get_more (y ∷ xs) x (suc i) m e = on (get_more xs x i m e) where
  on : (slice_get xs i ≡ Some m) ⊎ ((i ≡ length xs) × (m ≡ x)) → (slice_get (y ∷ xs) (suc i) ≡ Some m) ⊎ ((suc i ≡ length (y ∷ xs)) × (m ≡ x))
  on (inl h) = inl h
  on (inr h) = inr (omega (arith, h.0), h.1)

-- one node more, in a table that keeps the others
pub are_more : (image : ℕ → Formula) (t u : Table) (numbers more : List ℕ) (n : ℕ) → AreAt image t numbers → Keeps t u → IsAt u (image (length numbers)) n
    → more ≡ numbers ++ n ∷ [] → AreAt image u more
are_more image t u numbers more n all k a e i m h = on (get_more numbers n i m (subst (λ ns. slice_get ns i ≡ Some m) e h)) where
  on : (slice_get numbers i ≡ Some m) ⊎ ((i ≡ length numbers) × (m ≡ n)) → IsAt u (image i) m
  on (inl g) = at_kept t u (image i) m k (all i m g)
  on (inr g) = subst (λ j. IsAt u (image j) m) (sym g.0) (subst (λ x. IsAt u (image (length numbers)) x) (sym g.1) a)

-- the trees under the numbers are the images
pub under_are : (image : ℕ → Formula) (t : Table) (numbers : List ℕ) (i : ℕ) → AreAt image t numbers → i < length numbers
    → tree_among (trees_under t numbers) i ≡ image i
under_are image t numbers i all h =
    get_or-map (tree_at t) numbers i 0 (Const false) h ∙ (all i (get_or numbers i 0) (slice_get-get_or numbers i 0 h)).tree

-- a node over the same trees is the same
pub made_same : (names : List (List ℕ)) (xs ys : List Formula) (count place : ℕ) (node : Node) → IsFine count place node
    → ((i : ℕ) → i < place → tree_among xs i ≡ tree_among ys i) → made names xs node ≡ made names ys node
made_same names xs ys count place (nodes.Unary op a) fine each = ap (Unary op) (each a fine)
made_same names xs ys count place (nodes.Binary op a b) fine each = ap₂ (Binary op) (each a fine.0) (each b fine.1)
made_same names xs ys count place other fine each = refl

-- and a node with definitions put in, over trees with definitions put in
pub put_same : (ds : Definitions) (names : List (List ℕ)) (xs ys : List Formula) (count place : ℕ) (node : Node) → IsFine count place node
    → ((i : ℕ) → i < place → tree_among xs i ≡ substituted ds (tree_among ys i)) → put_over ds names xs node ≡ substituted ds (made names ys node)
put_same ds names xs ys count place (nodes.Unary op a) fine each = ap (Unary op) (each a fine)
put_same ds names xs ys count place (nodes.Binary op a b) fine each = ap₂ (Binary op) (each a fine.0) (each b fine.1)
put_same ds names xs ys count place other fine each = refl

-- one node of the source more: copied, or with what is defined put in
pub copied_on : (source t u : Table) (numbers more : List ℕ) (number : ℕ) (node : Node) (n : ℕ)
    → length numbers ≡ number → AreAt (tree_at source) t numbers → Keeps t u
    → tree_at source number ≡ made source.names (trees_of source) node → IsFine (length source.names) number node
    → IsAt u (made source.names (trees_under t numbers) node) n → more ≡ numbers ++ n ∷ [] → AreAt (tree_at source) u more
copied_on source t u numbers more number node n count all k tree fine at is =
    let same : made source.names (trees_under t numbers) node ≡ tree_at source (length numbers) =
    made_same source.names (trees_under t numbers) (trees_of source) (length source.names) number node fine
    (λ i h. under_are (tree_at source) t numbers i all (omega (arith, count, h)))
    ∙ sym tree ∙ ap (tree_at source) (sym count) in
    are_more (tree_at source) t u numbers more n all k
    (at_same u (made source.names (trees_under t numbers) node) (tree_at source (length numbers)) n same at) is

pub put_on : (ds : Definitions) (source t u : Table) (numbers more : List ℕ) (number : ℕ) (node : Node) (n : ℕ)
    → length numbers ≡ number → AreAt (λ i. substituted ds (tree_at source i)) t numbers → Keeps t u
    → tree_at source number ≡ made source.names (trees_of source) node → IsFine (length source.names) number node
    → IsAt u (put_over ds source.names (trees_under t numbers) node) n → more ≡ numbers ++ n ∷ [] → AreAt (λ i. substituted ds (tree_at source i)) u more
put_on ds source t u numbers more number node n count all k tree fine at is =
    let image : ℕ → Formula = λ i. substituted ds (tree_at source i) in
    let same : put_over ds source.names (trees_under t numbers) node ≡ image (length numbers) =
    put_same ds source.names (trees_under t numbers) (trees_of source) (length source.names) number node fine
    (λ i h. under_are image t numbers i all (omega (arith, count, h)))
    ∙ ap (substituted ds) (sym tree) ∙ ap image (sym count) in
    are_more image t u numbers more n all k (at_same u (put_over ds source.names (trees_under t numbers) node) (image (length numbers)) n same at) is
