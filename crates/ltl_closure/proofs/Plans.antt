-- The plan of a node makes its normal form, and is less work than the node.
use Rattle.std.proofs.Common.{◌≡◌, ℕ, zero, suc, ◌+◌, ◌<◌, Bool, true, false, not, refl, sym, subst, ◌∙◌, ap, arith, List, [], ◌∷◌, ◌++◌, length}
use Rattle.ltl_syntax.specs.declared.node.UnaryOp.{UnaryOp}
use Rattle.ltl_syntax.specs.declared.node.BinaryOp.{BinaryOp}
use Rattle.ltl_syntax.specs.declared.node.BinaryOp.TheVariants as two
use Rattle.ltl_syntax.specs.Shape.{Direction, Future, Past, Range, Step, Ever, Exactly, Between, Shape, Negation, Somewhere, Everywhere, shape}
use Rattle.ltl_syntax.specs.Formula.{Unary, Binary}
use Rattle.ltl_syntax.specs.Table.{Table, tree_at}
use Rattle.ltl_closure.specs.Norm.{Norm, NConst, conjunction, request, until, times, in_range, looking, under, over, norm}
use Rattle.ltl_closure.specs.Closure.{walk, with_new}
use Rattle.ltl_closure.specs.Keys.{asking, joined, own}
use Rattle.ltl_closure.specs.Plan.{Progress, reached, step, run, AreReady, conjunction_key, request_key, until_key, times_plan, window_plan, range_plan}
use Rattle.ltl_closure.specs.Plan.{looking_plan, shape_plan, unary_plan, pair_plan, nested_plan, binary_plan, window_cost, range_cost, shape_cost, cost}
use Rattle.ltl_closure.specs.Plan.{weights}
use Rattle.ltl_closure.specs.declared.key.Request.{Request}
use Rattle.ltl_closure.specs.declared.key.Request.TheVariants as asks
use Rattle.ltl_closure.specs.declared.key.Connective.{Connective}
use Rattle.ltl_closure.specs.declared.key.Connective.TheVariants as joins
use Rattle.ltl_closure.specs.declared.plan.Work.{Work}
use Rattle.ltl_closure.specs.declared.plan.Work.TheVariants as works
use Rattle.ltl_closure.proofs.Again.{with_new-append}

ask_walk : (r : Request) (a : Norm) (kept : List Norm) → with_new (with_new kept (walk a)) (own (asking r a)) ≡ with_new kept (walk (asking r a))
ask_walk asks.Next a kept = sym (with_new-append kept (walk a) (own (asking asks.Next a)))
ask_walk asks.WeakNext a kept = sym (with_new-append kept (walk a) (own (asking asks.WeakNext a)))
ask_walk asks.Yesterday a kept = sym (with_new-append kept (walk a) (own (asking asks.Yesterday a)))
ask_walk asks.WeakYesterday a kept = sym (with_new-append kept (walk a) (own (asking asks.WeakYesterday a)))

thrice : (kept xs ys zs : List Norm) → with_new (with_new (with_new kept xs) ys) zs ≡ with_new kept (xs ++ (ys ++ zs))
thrice kept xs ys zs = sym (with_new-append kept xs (ys ++ zs) ∙ with_new-append (with_new kept xs) ys zs)

join_walk : (c : Connective) (a b : Norm) (kept : List Norm)
    → with_new (with_new (with_new kept (walk a)) (walk b)) (own (joined c a b)) ≡ with_new kept (walk (joined c a b))
join_walk joins.And a b kept = thrice kept (walk a) (walk b) (own (joined joins.And a b))
join_walk joins.Or a b kept = thrice kept (walk a) (walk b) (own (joined joins.Or a b))
join_walk joins.Until a b kept = thrice kept (walk a) (walk b) (own (joined joins.Until a b))
join_walk joins.Release a b kept = thrice kept (walk a) (walk b) (own (joined joins.Release a b))
join_walk joins.Since a b kept = thrice kept (walk a) (walk b) (own (joined joins.Since a b))
join_walk joins.Trigger a b kept = thrice kept (walk a) (walk b) (own (joined joins.Trigger a b))

-- the operators of keys are those of normal forms
asking_is : (some : Bool) (side : Direction) (a : Norm) → asking (request_key some side) a ≡ request some side a
asking_is true Future a = refl
asking_is false Future a = refl
asking_is true Past a = refl
asking_is false Past a = refl

until_is : (some : Bool) (side : Direction) (a b : Norm) → joined (until_key some side) a b ≡ until some side a b
until_is true Future a b = refl
until_is false Future a b = refl
until_is true Past a b = refl
until_is false Past a b = refl

conjunction_is : (s : Bool) (a b : Norm) → joined (conjunction_key s) a b ≡ conjunction s a b
conjunction_is true a b = refl
conjunction_is false a b = refl

pub run-append : (t : Table) (ws vs : List Work) (p : Progress) → run t (ws ++ vs) p ≡ run t vs (run t ws p)
run-append t [] vs p = refl
run-append t (w ∷ ws) vs p = run-append t ws vs (step t w p)

pub ready-append : (t : Table) (ws vs : List Work) (p : Progress) → AreReady t ws p → AreReady t vs (run t ws p) → AreReady t (ws ++ vs) p
ready-append t [] vs p a b = b
ready-append t (w ∷ ws) vs p a b = (a.0, ready-append t ws vs (step t w p) a.1 b)

pub weights-append : (t : Table) (ws vs : List Work) → weights t (ws ++ vs) ≡ weights t ws + weights t vs
weights-append t [] vs = omega arith
weights-append t (w ∷ ws) vs = omega (arith, weights-append t ws vs)

-- the work walks the normal form and leaves its number
abbrev pub Makes : Table → List Work → Norm → Type 0
Makes t ws g = (p : Progress) → (run t ws p ≡ reached g p) × AreReady t ws p

module _ (t : Table) where
  visit : (n : ℕ) (s : Bool) → n < length t.nodes → Makes t (works.Visit n s ∷ []) (norm s (tree_at t n))
  visit n s lt p = (refl, (lt, tt))

  constant_makes : (b : Bool) → Makes t (works.Const b ∷ []) (NConst b)
  constant_makes b p = (refl, (tt, tt))

  ask : (r : Request) (ws : List Work) (a : Norm) → Makes t ws a → Makes t (ws ++ works.Ask r ∷ []) (asking r a)
  ask r ws a m p =
      let w = m p in (
        run-append t ws (works.Ask r ∷ []) p ∙ ap (run t (works.Ask r ∷ [])) w.0
            ∙ ap (λ kept. let q : Progress = record { kept = kept; values = asking r a ∷ p.values } in q) (ask_walk r a p.kept),
        ready-append t ws (works.Ask r ∷ []) p w.1 (rw w.0 (tt, tt)),
      )

  join : (c : Connective) (ws vs : List Work) (a b : Norm) → Makes t ws a → Makes t vs b → Makes t (ws ++ (vs ++ works.Join c ∷ [])) (joined c a b)
  join c ws vs a b m n p =
      let w = m p in
      let v = n (reached a p) in (
        run-append t ws (vs ++ works.Join c ∷ []) p ∙ ap (run t (vs ++ works.Join c ∷ [])) w.0 ∙ run-append t vs (works.Join c ∷ []) (reached a p)
            ∙ ap (run t (works.Join c ∷ [])) v.0
            ∙ ap (λ kept. let q : Progress = record { kept = kept; values = joined c a b ∷ p.values } in q) (join_walk c a b p.kept),
        ready-append t ws (vs ++ works.Join c ∷ []) p w.1 (rw w.0 (ready-append t vs (works.Join c ∷ []) (reached a p) v.1 (rw v.0 (tt, tt)))),
      )

  -- ---- over one operand

  module _ (some : Bool) (side : Direction) (s : Bool) (a : ℕ) (lt : a < length t.nodes) where
    abbrev c : Norm
    c = norm s (tree_at t a)

    here : Makes t (works.Visit a s ∷ []) c
    here = visit a s lt

    asked : (ws : List Work) (g : Norm) → Makes t ws g → Makes t (ws ++ works.Ask (request_key some side) ∷ []) (request some side g)
    asked ws g m = subst (Makes t (ws ++ works.Ask (request_key some side) ∷ [])) (asking_is some side g) (ask (request_key some side) ws g m)

    times_makes : (n : ℕ) → Makes t (times_plan (request_key some side) s a n) (times (request some side) n c)
    times_makes zero = here
    times_makes (suc n) = asked (times_plan (request_key some side) s a n) _ (times_makes n)

    range_makes : (m n : ℕ) → Makes t (range_plan some (request_key some side) s a m n) (in_range some (request some side) m n c)
    range_makes zero zero = here
    range_makes zero (suc n) = let rest = asked (range_plan some (request_key some side) s a zero n) _ (range_makes zero n) in
        subst (Makes t (range_plan some (request_key some side) s a zero (suc n))) (conjunction_is (not some) c _)
        (join (conjunction_key (not some)) (works.Visit a s ∷ []) _ _ _ here rest)
    range_makes (suc m) (suc n) = asked (range_plan some (request_key some side) s a m n) _ (range_makes m n)
    range_makes (suc m) zero = constant_makes (not some)

    looking_makes : (range : Range) → Makes t (looking_plan some side range s a) (looking some side range c)
    looking_makes Step = asked (works.Visit a s ∷ []) _ here
    looking_makes Ever = subst (Makes t (looking_plan some side Ever s a)) (until_is some side (NConst some) c)
        (join (until_key some side) (works.Const some ∷ []) (works.Visit a s ∷ []) _ _ (constant_makes some) here)
    looking_makes (Exactly n) = times_makes n
    looking_makes (Between m n) = range_makes m n

  shape_makes : (s : Bool) (look : Shape) (a : ℕ) → a < length t.nodes → Makes t (shape_plan s look a) (over s look (norm (under s look) (tree_at t a)))
  shape_makes s Negation a lt = visit a (not s) lt
  shape_makes s (Somewhere side range) a lt = looking_makes s side s a lt range
  shape_makes s (Everywhere side range) a lt = looking_makes (not s) side s a lt range

  pub unary_makes : (s : Bool) (op : UnaryOp) (a : ℕ) → a < length t.nodes → Makes t (unary_plan s op a) (norm s (Unary op (tree_at t a)))
  unary_makes s op a lt = shape_makes s (shape op) a lt

  -- ---- over two operands

  module _ (a b : ℕ) (la : a < length t.nodes) (lb : b < length t.nodes) where
    -- two visits and their connective
    pair : (c : Connective) (s r : Bool) (g : Norm) → joined c (norm s (tree_at t a)) (norm r (tree_at t b)) ≡ g → Makes t (pair_plan c s r a b) g
    pair c s r g is = subst (Makes t (pair_plan c s r a b)) is (join c (works.Visit a s ∷ []) (works.Visit b r ∷ []) _ _ (visit a s la) (visit b r lb))

    nested : (inner outer : Connective) (s : Bool) (i g : Norm) → joined inner (norm s (tree_at t a)) (norm s (tree_at t b)) ≡ i
        → joined outer (norm s (tree_at t b)) i ≡ g → Makes t (nested_plan inner outer s a b) g
    nested inner outer s i g is whole = subst (Makes t (nested_plan inner outer s a b)) whole
        (join outer (works.Visit b s ∷ []) (pair_plan inner s s a b) _ _ (visit b s lb) (pair inner s s i is))

    pub binary_makes : (s : Bool) (op : BinaryOp) → Makes t (binary_plan s op a b) (norm s (Binary op (tree_at t a) (tree_at t b)))
    binary_makes s two.And = pair (conjunction_key s) s s _ (conjunction_is s _ _)
    binary_makes s two.Or = pair (conjunction_key (not s)) s s _ (conjunction_is (not s) _ _)
    binary_makes s two.Implies = pair (conjunction_key (not s)) (not s) s _ (conjunction_is (not s) _ _)
    binary_makes s two.Iff = join joins.Or (pair_plan joins.And true s a b) (pair_plan joins.And false (not s) a b) _ _ (pair joins.And true s _ refl)
        (pair joins.And false (not s) _ refl)
    binary_makes s two.Until = pair (until_key s Future) s s _ (until_is s Future _ _)
    binary_makes s two.Release = pair (until_key (not s) Future) s s _ (until_is (not s) Future _ _)
    binary_makes s two.WeakUntil = nested (conjunction_key (not s)) (until_key (not s) Future) s _ _ (conjunction_is (not s) _ _) (until_is (not s) Future _ _)
    binary_makes s two.StrongRelease = nested (conjunction_key s) (until_key s Future) s _ _ (conjunction_is s _ _) (until_is s Future _ _)
    binary_makes s two.Since = pair (until_key s Past) s s _ (until_is s Past _ _)
    binary_makes s two.Trigger = pair (until_key (not s) Past) s s _ (until_is (not s) Past _ _)

  -- ---- the work that a plan is

  times_weigh : (r : Request) (s : Bool) (x n : ℕ) → weights t (times_plan r s x n) ≡ cost (tree_at t x) + n
  times_weigh r s x zero = omega arith
  times_weigh r s x (suc n) = omega (arith, times_weigh r s x n, weights-append t (times_plan r s x n) (works.Ask r ∷ []))

  window_weigh : (c : Connective) (z : Bool) (r : Request) (s : Bool) (x a b : ℕ) → weights t (window_plan c z r s x a b) ≡ window_cost a b (cost (tree_at t x))
  window_weigh c z r s x zero zero = omega arith
  window_weigh c z r s x zero (suc b) =
      omega (
        arith,
        window_weigh c z r s x zero b,
        weights-append t (window_plan c z r s x zero b) (works.Ask r ∷ []),
        weights-append t (window_plan c z r s x zero b ++ works.Ask r ∷ []) (works.Join c ∷ []),
      )
  window_weigh c z r s x (suc a) (suc b) = omega (arith, window_weigh c z r s x a b, weights-append t (window_plan c z r s x a b) (works.Ask r ∷ []))
  window_weigh c z r s x (suc a) zero = omega arith

  looking_weighs : (some : Bool) (side : Direction) (range : Range) (s : Bool) (a : ℕ)
      → weights t (looking_plan some side range s a) < range_cost range (cost (tree_at t a)) + 3
  looking_weighs some side Step s a = omega arith
  looking_weighs some side Ever s a = omega arith
  looking_weighs some side (Exactly n) s a = omega (arith, times_weigh (request_key some side) s a n)
  looking_weighs some side (Between m n) s a = omega (arith, window_weigh (conjunction_key (not some)) (not some) (request_key some side) s a m n)

  shape_less : (s : Bool) (look : Shape) (a : ℕ) → weights t (shape_plan s look a) + 1 < shape_cost look (cost (tree_at t a))
  shape_less s Negation a = omega arith
  shape_less s (Somewhere side range) a = omega (arith, looking_weighs s side range s a)
  shape_less s (Everywhere side range) a = omega (arith, looking_weighs (not s) side range s a)

  -- the plan and the note of its number are less work than the node
  pub unary_less : (s : Bool) (op : UnaryOp) (a : ℕ) → weights t (unary_plan s op a) + 1 < cost (Unary op (tree_at t a))
  unary_less s op a = shape_less s (shape op) a
