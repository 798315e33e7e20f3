-- What each kind of symbol does.
use Rattle.std.proofs.Common.{◌≡◌, ℕ, zero, suc, ◌+◌, ◌<◌, ◌≤◌, Bool, true, false, List, [], ◌∷◌, ◌++◌, length, get_or, arith, refl, sym, ap, ◌∙◌, subst}
use Rattle.std.proofs.Common.{length-append}
use Rattle.std.specs.Prelude.{Option, Some, None, MatchOption, bytes_eq, if◌then◌else◌}
use Rattle.std.specs.List.{list_any}
use Rattle.std.proofs.lemmas.List.Folds.{Any-from_list_any, list_any_at}
use Rattle.std.proofs.lemmas.Slice.Eq.{bytes_eq-Decides}
use Rattle.std.proofs.lemmas.Option.{get_or_from_slice_get}
use Rattle.ltl_syntax.specs.declared.node.BinaryOp.{BinaryOp}
use Rattle.ltl_syntax.specs.declared.node.Node.TheVariants as nodes
use Rattle.ltl_syntax.specs.declared.node.UnaryOp.{UnaryOp}
use Rattle.ltl_syntax.specs.Formula.{Formula, Const, Name, Letter}
use Rattle.ltl_syntax.specs.Size.{sizes, IsInOrder}
use Rattle.ltl_syntax.proofs.Sizes.{sizes-push}
use Rattle.ltl_syntax.specs.Table.{Table, tree_at, tree_among, has_child, IsRoot, IsPlain, Pushes, Names}
use Rattle.ltl_lexer.specs.Tokens.{IsWord}
use Rattle.ltl_lexer.proofs.Words.{no_brace}
use Rattle.ltl_parser.specs.declared.stack.Waiting.{Waiting}
use Rattle.ltl_parser.specs.declared.stack.Waiting.TheVariants as waits
use Rattle.ltl_parser.specs.Grammar.{Leaf, Prefix, Infix, Close, walk, later, Operand, Operator}
use Rattle.ltl_parser.specs.Text.{with_name}
use Rattle.ltl_parser.specs.Standing.{parens, left_bound, IsHeld, IsStopped, frames, AreRoots, Becomes, AddsLeaf, Steps}
use Rattle.ltl_parser.proofs.Holding.{push_infix, held_leaf, held_enclosed}
use Rattle.ltl_parser.proofs.Building.{frames_kept, root_kept}

pub word_plain : (bytes : List ℕ) → IsWord bytes → IsPlain bytes
word_plain [] w = tt
word_plain (b ∷ bs) w = λ e. no_brace bs (subst (λ z. IsWord (z ∷ bs)) e w)

same_default : (names : List (List ℕ)) (i : ℕ) (a b : List ℕ) → i < length names → get_or names i a ≡ get_or names i b
same_default [] i a b lt = absurd (omega arith)
same_default (x ∷ names) zero a b lt = refl
same_default (x ∷ names) (suc i) a b lt = same_default names i a b (omega arith)

-- a table takes a name as the list of names does
pub named : (t u : Table) (text : List ℕ) (number : ℕ) → Names t text number u → u.names ≡ with_name t.names (Leaf (Letter (Name text)))
named t u text number w = go (list_any (bytes_eq text) t.names) refl
  where
    go : (b : Bool) → list_any (bytes_eq text) t.names ≡ b → u.names ≡ (if b then t.names else t.names ++ text ∷ [])
    go true e =
        let k = Any-from_list_any (bytes_eq text) t.names e in
        let same : text ≡ k.1 = (bytes_eq-Decides text k.1).0 k.4 in
        (w.known k.0 k.2 (same_default t.names k.0 [] k.1 k.2 ∙ k.3 ∙ sym same)).1
    go false e = (w.added (λ i lt same.
        let here = list_any_at (bytes_eq text) t.names i [] lt ((bytes_eq-Decides text (get_or t.names i [])).1 (sym same)) in
        absurd (cc))).1

pub letter_added : (t u v : Table) (text : List ℕ) (number n : ℕ) → Names t text number u
    → length u.names ≤ length t.names + 1 → Pushes u (nodes.Letter number) v → IsRoot v n → n ≡ length u.nodes → AddsLeaf t (Letter (Name text)) v n
letter_added t u v text number n w few g r place =
    let long : length u.nodes ≡ length t.nodes = ap length w.nodes in
    let same : (k : ℕ) → tree_at u k ≡ tree_at t k = λ k. ap (λ z. tree_among z k) w.trees in
    record {
      tree = ap (tree_at v) place ∙ g.tree ∙ ap (λ x. Letter (Name x)) (get_or_from_slice_get u.names number text [] w.name);
      root = r;
      place = place ∙ long;
      count = omega (arith, ap length g.nodes ∙ length-append u.nodes (nodes.Letter number ∷ []));
      size = omega (arith, ap sizes g.nodes ∙ sizes-push u.nodes (nodes.Letter number), ap sizes w.nodes);
      names = g.names ∙ named t u text number w;
      few = omega (arith, ap length g.names);
      others = λ k lt. g.others k (omega arith) ∙ same k;
      roots = λ k h. root_kept u v (nodes.Letter number) k g.nodes (let l = h.0 in (omega arith, ap (list_any (has_child k)) w.nodes ∙ h.1)) refl;
    }

pub later_none : (x : Option ℕ) → later x ≡ None → x ≡ None
later_none None e = refl
later_none (Some n) e = absurd (cc)

roots_map : (t u : Table) (ws : List Waiting) (high : ℕ) → ((k : ℕ) → IsRoot t k → IsRoot u k) → AreRoots t ws high → AreRoots u ws high
roots_map t u [] high h r = tt
roots_map t u (waits.Paren ∷ ws) high h r = roots_map t u ws high h r
roots_map t u (waits.Prefix op ∷ ws) high h r = (r.0, roots_map t u ws high h r.1)
roots_map t u (waits.Infix left op ∷ ws) high h r = (r.0, h left r.1, roots_map t u ws left h r.2)

pub leaf_steps : (t u : Table) (ws : List Waiting) (f : Formula) (n : ℕ) → AddsLeaf t f u n → AreRoots t ws (length t.nodes) → length t.names ≤ length t.nodes
    → Steps t ws None (Leaf f) u ws (Some n)
leaf_steps t u ws f n g r names =
    let same = frames_kept t u ws (length t.nodes) r g.others in record {
      state = λ ts st m. subst (λ z. IsHeld m z (ts ++ Leaf f ∷ []) (tree_at u n)) (sym same)
          (subst (λ z. IsHeld m (frames t ws) (ts ++ Leaf f ∷ []) z) (sym g.tree) (held_leaf m (frames t ws) ts f st));
      goes_on = λ rest w. subst (λ z. walk Operator (parens z) rest ≡ None) (sym same) (later_none _ w);
      ready = record {
        last = let c = g.count in let p = g.place in omega arith;
        root = g.root;
        roots = subst (AreRoots u ws) (sym g.place) (roots_map t u ws (length t.nodes) g.roots r);
      };
      room = let c = g.count in omega arith;
      size = let c = g.size in omega arith;
      names = g.names;
      few = let c = g.count in let d = g.few in omega arith;
    }

-- a constant joins the table
pub constant_added : (t u : Table) (b : Bool) (n : ℕ) → Pushes t (nodes.Const b) u → IsRoot u n → n ≡ length t.nodes → AddsLeaf t (Const b) u n
constant_added t u b n g r place = record {
  tree = ap (tree_at u) place ∙ g.tree;
  root = r;
  place = place;
  count = omega (arith, ap length g.nodes ∙ length-append t.nodes (nodes.Const b ∷ []));
  size = omega (arith, ap sizes g.nodes ∙ sizes-push t.nodes (nodes.Const b));
  names = g.names;
  few = omega (arith, ap length g.names);
  others = g.others;
  roots = λ k h. g.roots k h refl;
}

pub prefix_steps : (t : Table) (ws : List Waiting) (op : UnaryOp) → IsInOrder op → AreRoots t ws (length t.nodes) → length t.names ≤ length t.nodes
    → Steps t ws None (Prefix op) t (waits.Prefix op ∷ ws) None
prefix_steps t ws op o r names = record {
  state = λ ts st. (ts, st, refl);
  goes_on = λ rest w. later_none _ w;
  ready = (o, r);
  room = omega arith;
  size = omega arith;
  names = refl;
  few = names;
}

pub infix_steps : (t u : Table) (ws vs : List Waiting) (a b : ℕ) (op : BinaryOp) → Becomes (left_bound op) t ws a u vs b
    → IsStopped (left_bound op) (frames u vs) → length t.names ≤ length t.nodes → Steps t ws (Some a) (Infix op) u (waits.Infix b op ∷ vs) None
infix_steps t u ws vs a b op g s names = record {
  state = λ ts h. push_infix op (frames u vs) ts (tree_at u b) (g.held ts (h (left_bound op))) s;
  goes_on = λ rest w. ap (λ n. walk Operand n rest) g.depth ∙ later_none _ w;
  ready = (g.pending.root.0, g.pending.root, g.pending.roots);
  room = let r = g.room in omega arith;
  size = let r = g.size in omega arith;
  names = g.names;
  few = let e = ap length g.names in let m = g.more in omega arith;
}

enclosed_steps : (t u : Table) (ws xs : List Waiting) (a b : ℕ) → Becomes 0 t ws a u (waits.Paren ∷ xs) b → length t.names ≤ length t.nodes
    → Steps t ws (Some a) Close u xs (Some b)
enclosed_steps t u ws xs a b g names = record {
  state = λ ts h m. held_enclosed m (frames u xs) ts (tree_at u b) (g.held ts (h 0));
  goes_on = λ rest w. later_none _ (subst (λ n. walk Operator n (Close ∷ rest) ≡ None) (sym g.depth) w);
  ready = record { last = g.pending.last; root = g.pending.root; roots = g.pending.roots };
  room = let r = g.room in omega arith;
  size = let r = g.size in omega arith;
  names = g.names;
  few = let e = ap length g.names in let m = g.more in omega arith;
}

pub close_steps : (t u : Table) (ws vs xs : List Waiting) (a b : ℕ) (r : Option Waiting) → Becomes 0 t ws a u vs b
    → IsStopped 0 (frames u vs) → MatchOption r ((vs ≡ []) × (xs ≡ [])) (λ w. vs ≡ w ∷ xs) → 0 < parens (frames t ws) → length t.names ≤ length t.nodes
    → Steps t ws (Some a) Close u xs (Some b)
close_steps t u ws [] xs a b r g s p l names = let d = g.depth in absurd (omega arith)
close_steps t u ws (waits.Paren ∷ vs) xs a b None g s p l names = let e = p.0 in absurd (cc)
close_steps t u ws (waits.Paren ∷ vs) xs a b (Some w) g s p l names =
    let e : vs ≡ xs = cc in
    enclosed_steps t u ws xs a b (subst (λ z. Becomes 0 t ws a u (waits.Paren ∷ z) b) e g) names
close_steps t u ws (waits.Prefix op ∷ vs) xs a b r g s p l names = absurd s
close_steps t u ws (waits.Infix left op ∷ vs) xs a b r g s p l names = absurd (omega arith)
