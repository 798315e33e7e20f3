-- A table stays a table when a node or a name is added.
use Rattle.std.proofs.Common.{◌≡◌, ◌≢◌, ℕ, suc, ◌+◌, ◌<◌, ◌≤◌, Bool, true, false, ◌||◌, ◌==◌, List, [], ◌∷◌, ◌++◌, length, get_or, Some, refl, sym, ◌∙◌, ap}
use Rattle.std.proofs.Common.{subst, arith, length-append, slice_get, cond, ◌⊎◌, inl, inr}
use Rattle.std.specs.List.{list_any, count_by}
use Rattle.std.proofs.lemmas.Bool.{eqb-true, cases_lt}
use Rattle.std.proofs.lemmas.Grind.{common_steps}
use Rattle.std.proofs.lemmas.Option.{slice_get-get_or}
use Rattle.std.proofs.lemmas.List.Sums.{sum_by-append}
use Rattle.std.proofs.Math.ListN.{get_or-append}
use Rattle.std.proofs.Math.Seq.{get_or-append_seam}
use Rattle.ltl_syntax.specs.declared.node.Node.{Node}
use Rattle.ltl_syntax.specs.declared.node.Node.TheVariants as nodes
use Rattle.ltl_syntax.specs.Formula.{Formula, Const, Letter, Name}
use Rattle.ltl_syntax.specs.Table.{Table, made, trees_after, trees_of, has_child, MayFollow, IsPlain, IsFine, AreFine, IsTable, Names, tree_at}
use Rattle.ltl_syntax.specs.Size.{sizes, node_size, HasOrder}
use Rattle.ltl_syntax.proofs.Sizes.{sizes-push, ordered-push, length-sizes}
use Rattle.ltl_syntax.proofs.Trees.{trees_after-push, length-trees_after}

-- what is a child of the next node was a root before
child_is_root : (t : Table) (node : Node) → MayFollow t node → (number : ℕ) → has_child number node ≡ true → list_any (has_child number) t.nodes ≡ false
child_is_root t (nodes.Const b) may number h = absurd (cc)
child_is_root t (nodes.Letter n) may number h = absurd (cc)
child_is_root t (nodes.Fresh n) may number h = absurd (cc)
child_is_root t (nodes.Unary op a) may number h = subst (λ (k : ℕ). list_any (has_child k) t.nodes ≡ false) (eqb-true a number h) may.0.1
child_is_root t (nodes.Binary op a b) may number h = either (a == number) (b == number) refl refl h where
  either : (p q : Bool) → (a == number) ≡ p → (b == number) ≡ q → (p || q) ≡ true → list_any (has_child number) t.nodes ≡ false
  either true q l r h = subst (λ (k : ℕ). list_any (has_child k) t.nodes ≡ false) (eqb-true a number l) may.0.1
  either false q l r h = subst (λ (k : ℕ). list_any (has_child k) t.nodes ≡ false) (eqb-true b number (r ∙ h)) may.1.1

none_counted : (p : Node → Bool) (ns : List Node) → list_any p ns ≡ false → count_by p ns ≡ 0
none_counted p [] h = refl
none_counted p (n ∷ ns) h = grind (arith, none_counted p ns, common_steps)

count_by-push : (p : Node → Bool) (ns : List Node) (n : Node) → count_by p (ns ++ n ∷ []) ≡ count_by p ns + cond (p n) 1 0
count_by-push p ns n = sum_by-append (λ x. cond (p x) 1 0) ns (n ∷ []) ∙ omega arith

pub fine_node : (t : Table) (node : Node) → MayFollow t node → IsFine (length t.names) (length t.nodes) node
fine_node t (nodes.Const b) may = tt
fine_node t (nodes.Letter n) may = may
fine_node t (nodes.Fresh n) may = tt
fine_node t (nodes.Unary op a) may = may.0.0
fine_node t (nodes.Binary op a b) may = (may.0.0, may.1.0, may.2)

fine_push : (m place : ℕ) (ns : List Node) (n : Node) → AreFine m place ns → IsFine m (place + length ns) n → AreFine m place (ns ++ n ∷ [])
fine_push m place [] n f g = let e : place + 0 ≡ place = omega arith in (rw e at g, tt)
fine_push m place (x ∷ ns) n f g =
    let e : place + 1 + length ns ≡ place + suc (length ns) = omega arith in
    (f.0, fine_push m (place + 1) ns n f.1 (rw (← e) at g))

single_push : (t : Table) (node : Node) → IsTable t.nodes t.names → MayFollow t node → (number : ℕ) → count_by (has_child number) (t.nodes ++ node ∷ []) ≤ 1
single_push t node is may number = rw (count_by-push (has_child number) t.nodes node) (by_cases (has_child number node) refl) where
  by_cases : (b : Bool) → has_child number node ≡ b → count_by (has_child number) t.nodes + cond b 1 0 ≤ 1
  by_cases true e = let none : count_by (has_child number) t.nodes ≡ 0 =
      none_counted (has_child number) t.nodes (child_is_root t node may number e) in omega arith
  by_cases false e = let one : count_by (has_child number) t.nodes ≤ 1 = is.single number in omega arith

order_node : (t : Table) (node : Node) → MayFollow t node → HasOrder node
order_node t (nodes.Unary op a) may = may.1
order_node t other may = tt

pub is_table-push : (t : Table) (node : Node) → IsTable t.nodes t.names → MayFollow t node
    → sizes t.nodes + node_size node ≤ 16384 → IsTable (t.nodes ++ node ∷ []) t.names
is_table-push t node is may room = record {
  few = let small : sizes (t.nodes ++ node ∷ []) ≤ 16384 = omega (arith, sizes-push t.nodes node) in omega (arith, length-sizes (t.nodes ++ node ∷ []), small);
  small = omega (arith, sizes-push t.nodes node);
  fine = fine_push (length t.names) 0 t.nodes node is.fine (let e : 0 + length t.nodes ≡ length t.nodes = omega arith in rw e (fine_node t node may));
  single = single_push t node is may;
  ordered = ordered-push t.nodes node is.ordered (order_node t node may);
  few_names = is.few_names;
  distinct = is.distinct;
  plain = is.plain;
}

trees_of-push : (t : Table) (node : Node)
    → trees_of (record { nodes = t.nodes ++ node ∷ []; names = t.names }) ≡ trees_of t ++ made t.names (trees_of t) node ∷ []
unfolding trees_of
trees_of-push t node = trees_after-push t.names [] t.nodes node

length-trees_of : (t : Table) → length (trees_of t) ≡ length t.nodes
unfolding trees_of
length-trees_of t = length-trees_after t.names [] t.nodes ∙ omega arith

pub tree_pushed : (t : Table) (node : Node)
    → tree_at (record { nodes = t.nodes ++ node ∷ []; names = t.names }) (length t.nodes) ≡ made t.names (trees_of t) node
tree_pushed t node = rw (trees_of-push t node, ← length-trees_of t) (get_or-append_seam (trees_of t) (made t.names (trees_of t) node) [] (Const false))

pub others_pushed : (t : Table) (node : Node) (number : ℕ) → number < length t.nodes
    → tree_at (record { nodes = t.nodes ++ node ∷ []; names = t.names }) number ≡ tree_at t number
others_pushed t node number h =
    rw (trees_of-push t node) (get_or-append (trees_of t) (made t.names (trees_of t) node ∷ []) (Const false) number (rw length-trees_of h))

fine_more : (m m' place : ℕ) (ns : List Node) → m ≤ m' → AreFine m place ns → AreFine m' place ns
fine_more m m' place [] le f = tt
fine_more m m' place (n ∷ ns) le f = (one n f.0, fine_more m m' (place + 1) ns le f.1) where
  one : (n : Node) → IsFine m place n → IsFine m' place n
  one (nodes.Const b) g = tt
  one (nodes.Letter k) g = omega arith
  one (nodes.Fresh k) g = tt
  one (nodes.Unary op a) g = g
  one (nodes.Binary op a b) g = g

made_more : (names : List (List ℕ)) (text : List ℕ) (trees : List Formula) (place : ℕ) (n : Node) → IsFine (length names) place n
    → made (names ++ text ∷ []) trees n ≡ made names trees n
made_more names text trees place (nodes.Letter k) f = ap (λ n. Letter (Name n)) (get_or-append names (text ∷ []) [] k f)
made_more names text trees place other f = refl

trees_after-names : (names : List (List ℕ)) (text : List ℕ) (trees : List Formula) (place : ℕ) (ns : List Node) → AreFine (length names) place ns
    → trees_after (names ++ text ∷ []) trees ns ≡ trees_after names trees ns
trees_after-names names text trees place [] f = refl
trees_after-names names text trees place (n ∷ ns) f =
    ap (λ (x : Formula). trees_after (names ++ text ∷ []) (trees ++ x ∷ []) ns) (made_more names text trees place n f.0)
    ∙ trees_after-names names text (trees ++ made names trees n ∷ []) (place + 1) ns f.1

-- what holds of each name and of one more holds of all of them
name_cases : (names : List (List ℕ)) (text : List ℕ) (i : ℕ) → i < length (names ++ text ∷ []) →
    ((i < length names) × (get_or (names ++ text ∷ []) i [] ≡ get_or names i [])) ⊎ ((i ≡ length names) × (get_or (names ++ text ∷ []) i [] ≡ text))
name_cases names text i h = choose (cases_lt i (length names)) where
  choose : (i < length names) ⊎ (length names ≤ i)
      → ((i < length names) × (get_or (names ++ text ∷ []) i [] ≡ get_or names i [])) ⊎ ((i ≡ length names) × (get_or (names ++ text ∷ []) i [] ≡ text))
  choose (inl lt) = inl (lt, get_or-append names (text ∷ []) [] i lt)
  choose (inr le) = let e : i ≡ length names = omega (arith, length-append names (text ∷ [])) in inr (e, rw e (get_or-append_seam names text [] []))

pub is_table-name : (t : Table) (text : List ℕ) → IsTable t.nodes t.names → length t.names < 4294967295 → IsPlain text
    → ((i : ℕ) → i < length t.names → get_or t.names i [] ≢ text) → IsTable t.nodes (t.names ++ text ∷ [])
is_table-name t text is room plain new = record {
  few = is.few;
  small = is.small;
  fine = fine_more (length t.names) (length (t.names ++ text ∷ [])) 0 t.nodes (omega (arith, length-append t.names (text ∷ []))) is.fine;
  single = is.single;
  ordered = is.ordered;
  few_names = omega (arith, length-append t.names (text ∷ []));
  distinct = λ i j lt h. differ i j lt (name_cases t.names text j h);
  plain = λ i h. each i (name_cases t.names text i h);
} where
  differ : (i j : ℕ) → i < j → ((j < length t.names) × (get_or (t.names ++ text ∷ []) j [] ≡ get_or t.names j []))
      ⊎ ((j ≡ length t.names) × (get_or (t.names ++ text ∷ []) j [] ≡ text)) → get_or (t.names ++ text ∷ []) i [] ≢ get_or (t.names ++ text ∷ []) j []
  differ i j lt (inl w) e = let here : i < length t.names = omega arith in is.distinct i j lt w.0 (sym (get_or-append t.names (text ∷ []) [] i here) ∙ e ∙ w.1)
  differ i j lt (inr w) e = let here : i < length t.names = omega arith in new i here (sym (get_or-append t.names (text ∷ []) [] i here) ∙ e ∙ w.1)

  each : (i : ℕ) → ((i < length t.names) × (get_or (t.names ++ text ∷ []) i [] ≡ get_or t.names i []))
      ⊎ ((i ≡ length t.names) × (get_or (t.names ++ text ∷ []) i [] ≡ text)) → IsPlain (get_or (t.names ++ text ∷ []) i [])
  each i (inl w) = subst IsPlain (sym w.1) (is.plain i w.0)
  each i (inr w) = subst IsPlain (sym w.1) plain

pub names_added : (t : Table) (text : List ℕ) → IsTable t.nodes t.names → ((i : ℕ) → i < length t.names → get_or t.names i [] ≢ text)
    → Names t text (length t.names) (record { nodes = t.nodes; names = t.names ++ text ∷ [] })
unfolding trees_of
names_added t text is new = record {
  nodes = refl;
  known = λ i h e. absurd (new i h e);
  added = λ _. (refl, refl);
  name = slice_get_seam t.names text;
  trees = trees_after-names t.names text [] 0 t.nodes is.fine;
} where
  slice_get_seam : (names : List (List ℕ)) (x : List ℕ) → slice_get (names ++ x ∷ []) (length names) ≡ Some x
  slice_get_seam [] x = refl
  slice_get_seam (y ∷ names) x = slice_get_seam names x

-- a name that is there keeps its number
pub names_kept : (t : Table) (text : List ℕ) → IsTable t.nodes t.names → (number : ℕ) → number < length t.names
    → get_or t.names number [] ≡ text → Names t text number t
names_kept t text is number there same = record {
  nodes = refl;
  known = λ i h e. (one i h e (cases_lt i number) (cases_lt number i), refl);
  added = λ new. absurd (new number there same);
  name = slice_get-get_or t.names number [] there ∙ ap Some same;
  trees = refl;
} where
  one : (i : ℕ) → i < length t.names → get_or t.names i [] ≡ text → (i < number) ⊎ (number ≤ i) → (number < i) ⊎ (i ≤ number) → number ≡ i
  one i h e (inl lt) r = absurd (is.distinct i number lt there (e ∙ sym same))
  one i h e (inr le) (inl lt) = absurd (is.distinct number i lt h (same ∙ sym e))
  one i h e (inr le) (inr ge) = omega arith
