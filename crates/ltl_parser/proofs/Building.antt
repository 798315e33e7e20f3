-- What the stack and the table stand for, before and after a node is pushed.
use Rattle.std.proofs.Common.{◌≡◌, ℕ, ◌<◌, ◌≤◌, Bool, true, false, ◌||◌, ◌==◌, List, ◌∷◌, ◌++◌, length, arith, refl, sym, ap, ap₂, ◌∙◌, subst, []}
use Rattle.std.proofs.Common.{length-append}
use Rattle.std.specs.Prelude.{Option, Some, None, nat_le, if◌then◌else◌, MatchOption}
use Rattle.std.specs.List.{list_any}
use Rattle.std.proofs.lemmas.Bool.Decides.{nat_tests}
use Rattle.std.proofs.lemmas.List.Folds.{list_any-append}
use Rattle.ltl_syntax.specs.declared.node.Node.{Node}
use Rattle.ltl_syntax.specs.declared.node.Node.TheVariants as nodes
use Rattle.ltl_syntax.specs.Formula.{Unary, Binary}
use Rattle.ltl_syntax.specs.Table.{Table, tree_at, trees_of, made, has_child, IsRoot, MayFollow, Pushes}
use Rattle.ltl_syntax.specs.Size.{node_size, sizes}
use Rattle.ltl_syntax.proofs.Sizes.{sizes-push}
use Rattle.ltl_parser.specs.declared.stack.Waiting.{Waiting}
use Rattle.ltl_parser.specs.declared.stack.Waiting.TheVariants as waits
use Rattle.ltl_parser.specs.Grammar.{strength}
use Rattle.ltl_parser.specs.Standing.{Paren, Pre, Half, parens, IsHeld, IsStopped, frames, AreRoots, ArePending, applied, Becomes}
use Rattle.ltl_parser.proofs.Holding.{apply_prefix, apply_infix}

pub frames_kept : (t u : Table) (ws : List Waiting) (high : ℕ) → AreRoots t ws high → ((k : ℕ) → k < length t.nodes → tree_at u k ≡ tree_at t k)
    → frames u ws ≡ frames t ws
frames_kept t u [] high r e = refl
frames_kept t u (waits.Paren ∷ ws) high r e = ap (λ z. Paren ∷ z) (frames_kept t u ws high r e)
frames_kept t u (waits.Prefix op ∷ ws) high r e = ap (λ z. Pre op ∷ z) (frames_kept t u ws high r.1 e)
frames_kept t u (waits.Infix left op ∷ ws) high r e = ap₂ (λ y z. Half y op ∷ z) (e left r.1.0) (frames_kept t u ws left r.2 e)

pub root_kept : (t u : Table) (node : Node) (k : ℕ) → u.nodes ≡ t.nodes ++ node ∷ [] → IsRoot t k → has_child k node ≡ false → IsRoot u k
root_kept t u node k e r h = (
  omega (arith, ap length e ∙ length-append t.nodes (node ∷ []), r.0),
  ap (list_any (has_child k)) e ∙ list_any-append (has_child k) t.nodes (node ∷ []) ∙ ap₂ (λ p q. p || q) r.1 (ap (λ p. p || false) h),
)

pub roots_kept : (t u : Table) (node : Node) (ws : List Waiting) (high : ℕ) → u.nodes ≡ t.nodes ++ node ∷ [] → AreRoots t ws high
    → ((k : ℕ) → k < high → has_child k node ≡ false) → AreRoots u ws high
roots_kept t u node [] high e r h = tt
roots_kept t u node (waits.Paren ∷ ws) high e r h = roots_kept t u node ws high e r h
roots_kept t u node (waits.Prefix op ∷ ws) high e r h = (r.0, roots_kept t u node ws high e r.1 h)
roots_kept t u node (waits.Infix left op ∷ ws) high e r h =
    (r.0, root_kept t u node left e r.1 (h left r.0), roots_kept t u node ws left e r.2 (λ k lt. h k (let l = r.0 in omega arith)))

pub roots_higher : (t : Table) (ws : List Waiting) (low high : ℕ) → low ≤ high → AreRoots t ws low → AreRoots t ws high
roots_higher t [] low high le r = tt
roots_higher t (waits.Paren ∷ ws) low high le r = roots_higher t ws low high le r
roots_higher t (waits.Prefix op ∷ ws) low high le r = (r.0, roots_higher t ws low high le r.1)
roots_higher t (waits.Infix left op ∷ ws) low high le r = (let l = r.0 in omega arith, r.1, r.2)

above : (a k : ℕ) → k < a → (a == k) ≡ false
above a k h = grind (arith, nat_tests)

chosen : (b : Bool) (n m : Node) → (if b then Some n else None) ≡ Some m → (b ≡ true) × (n ≡ m)
chosen true n m e = (refl, cc)
chosen false n m e = absurd (cc)

not_chosen : (b : Bool) (n : Node) → (if b then Some n else None) ≡ None → b ≡ false
not_chosen true n e = absurd (cc)
not_chosen false n e = refl

level_le : (m n : ℕ) → nat_le m n ≡ true → m ≤ n
level_le m n e = grind (arith, nat_tests)

level_lt : (m n : ℕ) → nat_le m n ≡ false → n < m
level_lt m n e = grind (arith, nat_tests)

pub may_follow : (m : ℕ) (t : Table) (ws : List Waiting) (a : ℕ) (node : Node) → applied m ws a ≡ Some node → ArePending t ws a → MayFollow t node
may_follow m t [] a node e p = absurd (cc)
may_follow m t (waits.Paren ∷ ws) a node e p = absurd (cc)
may_follow m t (waits.Prefix op ∷ ws) a node e p = let n : nodes.Unary op a ≡ node = cc in subst (MayFollow t) n (p.root, p.roots.0)
may_follow m t (waits.Infix left op ∷ ws) a node e p =
    let n = chosen (nat_le m (strength op)) (nodes.Binary op left a) node e in
    let l = p.roots.0 in
    subst (MayFollow t) n.1 (p.roots.1, p.root, λ same. absurd (omega arith))

pub stopped : (m : ℕ) (t : Table) (ws : List Waiting) (a : ℕ) → applied m ws a ≡ None → IsStopped m (frames t ws)
stopped m t [] a e = tt
stopped m t (waits.Paren ∷ ws) a e = tt
stopped m t (waits.Prefix op ∷ ws) a e = absurd (cc)
stopped m t (waits.Infix left op ∷ ws) a e = level_lt m (strength op) (not_chosen (nat_le m (strength op)) (nodes.Binary op left a) e)

pub becomes_more : (m : ℕ) (t u v : Table) (ws xs ys : List Waiting) (a b c : ℕ) → Becomes m t ws a u xs b → Becomes m u xs b v ys c → Becomes m t ws a v ys c
becomes_more m t u v ws xs ys a b c p q = record {
  held = λ ts h. q.held ts (p.held ts h);
  depth = q.depth ∙ p.depth;
  pending = q.pending;
  room = q.room ∙ p.room;
  size = q.size ∙ p.size;
  more = let x = p.more in let y = q.more in omega arith;
  names = q.names ∙ p.names;
}

-- one node pushed: what waited on top is applied
pub becomes_pushed : (m : ℕ) (t u : Table) (w : Waiting) (ws : List Waiting) (a : ℕ) (node : Node) → applied m (w ∷ ws) a ≡ Some node → ArePending t (w ∷ ws) a
    → Pushes t node u → IsRoot u (length t.nodes) → Becomes m t (w ∷ ws) a u ws (length t.nodes)
becomes_pushed m t u waits.Paren ws a node e p g r = absurd (cc)
becomes_pushed m t u (waits.Prefix op) ws a node e p g r =
    let n : nodes.Unary op a ≡ node = cc in
    let tree : tree_at u (length t.nodes) ≡ Unary op (tree_at t a) = g.tree ∙ ap (made t.names (trees_of t)) (sym n) in
    let same = frames_kept t u ws a p.roots.1 g.others in
    let low : a < length t.nodes = p.root.0 in
    record {
      held = λ ts h. subst (λ z. IsHeld m z ts (tree_at u (length t.nodes))) (sym same)
          (subst (λ z. IsHeld m (frames t ws) ts z) (sym tree) (apply_prefix m op (frames t ws) ts (tree_at t a) h));
      depth = ap parens same;
      pending = record {
        last = omega (arith, ap length g.nodes ∙ length-append t.nodes (node ∷ []));
        root = r;
        roots =
            roots_higher u ws a (length t.nodes) (omega arith) (roots_kept t u node ws a g.nodes p.roots.1 (λ k lt. ap (has_child k) (sym n) ∙ above a k lt));
      };
      room = omega (arith, ap length g.nodes ∙ length-append t.nodes (node ∷ []));
      size = omega (arith, ap sizes g.nodes ∙ sizes-push t.nodes node, ap node_size n);
      more = omega (arith, ap length g.nodes ∙ length-append t.nodes (node ∷ []));
      names = g.names;
    }
becomes_pushed m t u (waits.Infix left op) ws a node e p g r =
    let c = chosen (nat_le m (strength op)) (nodes.Binary op left a) node e in
    let tree : tree_at u (length t.nodes) ≡ Binary op (tree_at t left) (tree_at t a) = g.tree ∙ ap (made t.names (trees_of t)) (sym c.1) in
    let same = frames_kept t u ws left p.roots.2 g.others in
    let low : a < length t.nodes = p.root.0 in
    let lower : left < a = p.roots.0 in
    record {
      held = λ ts h. subst (λ z. IsHeld m z ts (tree_at u (length t.nodes))) (sym same)
          (subst (λ z. IsHeld m (frames t ws) ts z) (sym tree)
          (apply_infix m op (tree_at t left) (frames t ws) ts (tree_at t a) (level_le m (strength op) c.0) h));
      depth = ap parens same;
      pending = record {
        last = omega (arith, ap length g.nodes ∙ length-append t.nodes (node ∷ []));
        root = r;
        roots = roots_higher u ws left (length t.nodes) (omega arith) (roots_kept t u node ws left g.nodes p.roots.2 (λ k lt. ap (has_child k) (sym c.1)
            ∙ ap₂ (λ p q. p || q) (above left k lt) (above a k (omega arith))));
      };
      room = omega (arith, ap length g.nodes ∙ length-append t.nodes (node ∷ []));
      size = omega (arith, ap sizes g.nodes ∙ sizes-push t.nodes node, ap node_size c.1);
      more = omega (arith, ap length g.nodes ∙ length-append t.nodes (node ∷ []));
      names = g.names;
    }

pub becomes_popped : (m : ℕ) (t u : Table) (ws vs : List Waiting) (a n : ℕ) (node : Node) (r : Option Waiting) → Some node ≡ applied m ws a
    → MatchOption r ((ws ≡ []) × (vs ≡ [])) (λ w. ws ≡ w ∷ vs) → ArePending t ws a → Pushes t node u → IsRoot u n → n ≡ length t.nodes → Becomes m t ws a u vs n
becomes_popped m t u ws vs a n node None e s p g q k = let x = ap (λ z. applied m z a) s.0 in absurd (cc)
becomes_popped m t u ws vs a n node (Some w) e s p g q k =
    let f : applied m (w ∷ vs) a ≡ Some node = ap (λ z. applied m z a) (sym s) ∙ sym e in
    subst (λ z. Becomes m t z a u vs n) (sym s)
    (subst (λ z. Becomes m t (w ∷ vs) a u vs z) (sym k) (becomes_pushed m t u w vs a node f (subst (λ z. ArePending t z a) s p) g (subst (IsRoot u) k q)))
