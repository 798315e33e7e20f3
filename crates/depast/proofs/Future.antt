-- The formula without past operators has none.
use Rattle.std.proofs.Common.{ℕ, zero, suc, ◌+◌, ◌-◌, Bool, true, false, List, [], ◌∷◌, ◌++◌}
use Rattle.std.specs.Prelude.{⊤}
use Rattle.ltl_syntax.specs.declared.node.UnaryOp.{UnaryOp}
use Rattle.ltl_syntax.specs.declared.node.BinaryOp.{BinaryOp}
use Rattle.ltl_syntax.specs.declared.node.UnaryOp.TheVariants.{Historically, HistoricallyIn}
use Rattle.ltl_syntax.specs.declared.node.UnaryOp.TheVariants.{Once, OnceIn, WeakYesterday, Yesterday, YesterdayTimes}
use Rattle.ltl_syntax.specs.declared.node.BinaryOp.TheVariants.{And, Or, Since, Trigger}
use Rattle.ltl_syntax.specs.Formula.{Formula, Const, Letter, Unary, Binary}
use Rattle.depast.specs.Depast.{taken, step_back, joined_back, residue, residue₁, residue₂, yesterday_axiom, weak_yesterday_axiom, since_axiom, trigger_axiom}
use Rattle.depast.specs.Depast.{back_axioms, axioms, axioms₁, axioms₂, conjoined, letter_for, depast}
use Rattle.depast.specs.Future.{IsFuture, IsFuture₂}

abbrev AreFuture : List Formula → Type 0
AreFuture [] = ⊤
AreFuture (x ∷ xs) = IsFuture x × AreFuture xs

future_append : (xs ys : List Formula) → AreFuture xs → AreFuture ys → AreFuture (xs ++ ys)
future_append [] ys h k = k
future_append (x ∷ xs) ys h k = (h.0, future_append xs ys h.1 k)

module _ (z : ℕ → Formula) (plain : (k : ℕ) → IsFuture (z k)) where
  yesterday_future : (a : Formula) (k : ℕ) → IsFuture a → IsFuture (yesterday_axiom a (z k))
  yesterday_future a k h = let p = plain k in (tt, (tt, p), (tt, (tt, (tt, h, (tt, p)), (tt, (tt, h), (tt, (tt, p))))))

  weak_yesterday_future : (a : Formula) (k : ℕ) → IsFuture a → IsFuture (weak_yesterday_axiom a (z k))
  weak_yesterday_future a k h = let p = plain k in (tt, p, (tt, (tt, (tt, h, (tt, p)), (tt, (tt, h), (tt, (tt, p))))))

  since_future : (a b : Formula) (k : ℕ) → IsFuture a → IsFuture b → IsFuture (since_axiom a b (z k))
  since_future a b k h i = let p = plain k in (tt, (tt, p, i), (tt, (tt, (tt, p, (tt, (tt, p, (tt, i, h)))), (tt, (tt, p), (tt, (tt, p, i))))))

  trigger_future : (a b : Formula) (k : ℕ) → IsFuture a → IsFuture b → IsFuture (trigger_axiom a b (z k))
  trigger_future a b k h i = let p = plain k in (tt, (tt, p, i), (tt, (tt, (tt, p, (tt, (tt, p, i))), (tt, (tt, p), (tt, (tt, p, (tt, i, h)))))))

  step_future : (k : ℕ) (c : Formula) → IsFuture c → (n : ℕ) → IsFuture (step_back z k c n)
  step_future k c h zero = h
  step_future k c h (suc n) = plain (k + n)

  joined_future : (op : BinaryOp) (b : Bool) → IsFuture₂ op → (w : ℕ → Formula) → ((j : ℕ) → IsFuture (w j)) → (m n : ℕ) → IsFuture (joined_back op b w m n)
  joined_future op b f w h m zero = tt
  joined_future op b f w h m (suc zero) = h m
  joined_future op b f w h m (suc (suc n)) = (f, joined_future op b f w h m (suc n), h (m + suc n))

  residue₁_future : (op : UnaryOp) (k : ℕ) (c : Formula) → IsFuture c → IsFuture (residue₁ z k op c)
  residue₁_future Yesterday k c h = plain k
  residue₁_future WeakYesterday k c h = plain k
  residue₁_future Once k c h = plain k
  residue₁_future Historically k c h = plain k
  residue₁_future (YesterdayTimes n) k c h = step_future k c h n
  residue₁_future (OnceIn m n) k c h = joined_future Or false tt (step_back z k c) (step_future k c h) m (suc n - m)
  residue₁_future (HistoricallyIn m n) k c h = joined_future And true tt (step_back z k c) (step_future k c h) m (suc n - m)
  residue₁_future op k c h = (tt, h)

  residue₂_future : (op : BinaryOp) (k : ℕ) (c d : Formula) → IsFuture c → IsFuture d → IsFuture (residue₂ z k op c d)
  residue₂_future Since k c d h i = plain k
  residue₂_future Trigger k c d h i = plain k
  residue₂_future op k c d h i = (tt, h, i)

  residue_future : (f : Formula) (n : ℕ) → IsFuture (residue z n f)
  residue_future (Const b) n = tt
  residue_future (Letter p) n = tt
  residue_future (Unary op a) n = residue₁_future op (n + taken a) (residue z n a) (residue_future a n)
  residue_future (Binary op a b) n =
      residue₂_future op (n + taken a + taken b) (residue z n a) (residue z (n + taken a) b) (residue_future a n) (residue_future b (n + taken a))

  back_future : (says : Formula → Formula → Formula) → ((a : Formula) (k : ℕ) → IsFuture a → IsFuture (says a (z k))) → (k : ℕ) (c : Formula) → IsFuture c
      → (n : ℕ) → AreFuture (back_axioms says z k c n)
  back_future says s k c h zero = tt
  back_future says s k c h (suc n) = future_append (back_axioms says z k c n) (says (step_back z k c n) (z (k + n)) ∷ []) (back_future says s k c h n)
      (s (step_back z k c n) (k + n) (step_future k c h n), tt)

  axioms₁_future : (op : UnaryOp) (k : ℕ) (c : Formula) → IsFuture c → AreFuture (axioms₁ z k op c)
  axioms₁_future Yesterday k c h = (yesterday_future c k h, tt)
  axioms₁_future WeakYesterday k c h = (weak_yesterday_future c k h, tt)
  axioms₁_future Once k c h = (since_future (Const true) c k tt h, tt)
  axioms₁_future Historically k c h = (trigger_future (Const false) c k tt h, tt)
  axioms₁_future (YesterdayTimes n) k c h = back_future yesterday_axiom yesterday_future k c h n
  axioms₁_future (OnceIn m n) k c h = back_future yesterday_axiom yesterday_future k c h n
  axioms₁_future (HistoricallyIn m n) k c h = back_future weak_yesterday_axiom weak_yesterday_future k c h n
  axioms₁_future op k c h = tt

  axioms₂_future : (op : BinaryOp) (k : ℕ) (c d : Formula) → IsFuture c → IsFuture d → AreFuture (axioms₂ z k op c d)
  axioms₂_future Since k c d h i = (since_future c d k h i, tt)
  axioms₂_future Trigger k c d h i = (trigger_future c d k h i, tt)
  axioms₂_future op k c d h i = tt

  axioms_future : (f : Formula) (n : ℕ) → AreFuture (axioms z n f)
  axioms_future (Const b) n = tt
  axioms_future (Letter p) n = tt
  axioms_future (Unary op a) n = future_append (axioms z n a) (axioms₁ z (n + taken a) op (residue z n a)) (axioms_future a n)
      (axioms₁_future op (n + taken a) (residue z n a) (residue_future a n))
  axioms_future (Binary op a b) n =
      future_append (axioms z n a) (axioms z (n + taken a) b ++ axioms₂ z (n + taken a + taken b) op (residue z n a) (residue z (n + taken a) b))
      (axioms_future a n)
      (future_append (axioms z (n + taken a) b) (axioms₂ z (n + taken a + taken b) op (residue z n a) (residue z (n + taken a) b))
      (axioms_future b (n + taken a))
      (axioms₂_future op (n + taken a + taken b) (residue z n a) (residue z (n + taken a) b) (residue_future a n) (residue_future b (n + taken a))))

conjoined_future : (xs : List Formula) (f : Formula) → IsFuture f → AreFuture xs → IsFuture (conjoined f xs)
conjoined_future [] f h k = h
conjoined_future (x ∷ xs) f h k = conjoined_future xs (Binary And f x) (tt, h, k.0) k.1

pub depast_future : (f : Formula) → IsFuture (depast f)
depast_future f = conjoined_future (axioms (letter_for f) 0 f) (residue (letter_for f) 0 f) (residue_future (letter_for f) (λ k. tt) f 0)
    (axioms_future (letter_for f) (λ k. tt) f 0)
