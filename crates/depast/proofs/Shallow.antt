-- What the names of a formula stand for is nested no deeper than the formula.
use Rattle.std.proofs.Common.{ℕ, zero, suc, ◌+◌, ◌<◌, ◌≤◌, max, arith, false, List, [], ◌∷◌, ◌++◌, slice_index_or}
use Rattle.std.specs.Prelude.{⊤}
use Rattle.ltl_syntax.specs.declared.node.UnaryOp.{UnaryOp}
use Rattle.ltl_syntax.specs.declared.node.BinaryOp.{BinaryOp}
use Rattle.ltl_syntax.specs.declared.node.UnaryOp.TheVariants.{Historically, HistoricallyIn}
use Rattle.ltl_syntax.specs.declared.node.UnaryOp.TheVariants.{Once, OnceIn, WeakYesterday, Yesterday, YesterdayTimes}
use Rattle.ltl_syntax.specs.declared.node.BinaryOp.TheVariants.{And, Since, Trigger}
use Rattle.ltl_syntax.specs.Formula.{Formula, Const, Letter, Unary, Binary}
use Rattle.ltl_word.specs.Depth.{past_depth}
use Rattle.depast.specs.Lifting.{counted, meanings, meanings₁, meanings₂}

abbrev AreShallow : ℕ → List Formula → Type 0
AreShallow h [] = ⊤
AreShallow h (x ∷ xs) = (past_depth x ≤ h) × AreShallow h xs

shallow_append : (h : ℕ) (xs ys : List Formula) → AreShallow h xs → AreShallow h ys → AreShallow h (xs ++ ys)
shallow_append h [] ys a b = b
shallow_append h (x ∷ xs) ys a b = (a.0, shallow_append h xs ys a.1 b)

shallow_more : (g h : ℕ) → g ≤ h → (xs : List Formula) → AreShallow g xs → AreShallow h xs
shallow_more g h le [] a = tt
shallow_more g h le (x ∷ xs) a = let d = a.0 in (omega arith, shallow_more g h le xs a.1)

shallow_counted : (h : ℕ) (g : ℕ → Formula) (n : ℕ) → ((j : ℕ) → j < n → past_depth (g (suc j)) ≤ h) → AreShallow h (counted g n)
shallow_counted h g zero k = tt
shallow_counted h g (suc n) k = shallow_append h (counted g n) (g (suc n) ∷ []) (shallow_counted h g n (λ j lt. k j (omega arith))) (k n (omega arith), tt)

shallow₁ : (op : UnaryOp) (a : Formula) → AreShallow (past_depth (Unary op a)) (meanings₁ op a)
shallow₁ Yesterday a = (omega arith, tt)
shallow₁ WeakYesterday a = (omega arith, tt)
shallow₁ Once a = (omega arith, tt)
shallow₁ Historically a = (omega arith, tt)
shallow₁ (YesterdayTimes n) a = shallow_counted (n + past_depth a) (λ m. Unary (YesterdayTimes m) a) n (λ j lt. omega arith)
shallow₁ (OnceIn m n) a = shallow_counted (n + past_depth a) (λ k. Unary (YesterdayTimes k) a) n (λ j lt. omega arith)
shallow₁ (HistoricallyIn m n) a = shallow_counted (n + past_depth a) (λ k. Unary (HistoricallyIn k k) a) n (λ j lt. omega arith)
shallow₁ op a = tt

shallow₂ : (op : BinaryOp) (a b : Formula) → AreShallow (past_depth (Binary op a b)) (meanings₂ op a b)
shallow₂ Since a b = (omega arith, tt)
shallow₂ Trigger a b = (omega arith, tt)
shallow₂ op a b = tt

deeper₁ : (op : UnaryOp) (a : Formula) → past_depth a ≤ past_depth (Unary op a)
deeper₁ op a = omega arith

deeper₂ : (op : BinaryOp) (a b : Formula) → max (past_depth a) (past_depth b) ≤ past_depth (Binary op a b)
deeper₂ And a b = omega arith
deeper₂ op a b = omega arith

shallow : (f : Formula) → AreShallow (past_depth f) (meanings f)
shallow (Const b) = tt
shallow (Letter p) = tt
shallow (Unary op a) = shallow_append (past_depth (Unary op a)) (meanings a) (meanings₁ op a)
    (shallow_more (past_depth a) (past_depth (Unary op a)) (deeper₁ op a) (meanings a) (shallow a)) (shallow₁ op a)
shallow (Binary op a b) =
    let d = deeper₂ op a b in
    shallow_append (past_depth (Binary op a b)) (meanings a) (meanings b ++ meanings₂ op a b)
    (shallow_more (past_depth a) (past_depth (Binary op a b)) (omega arith) (meanings a) (shallow a))
    (shallow_append (past_depth (Binary op a b)) (meanings b) (meanings₂ op a b)
    (shallow_more (past_depth b) (past_depth (Binary op a b)) (omega arith) (meanings b) (shallow b)) (shallow₂ op a b))

shallow_at : (h : ℕ) (xs : List Formula) (k : ℕ) → AreShallow h xs → past_depth (slice_index_or xs k (Const false)) ≤ h
shallow_at h [] k a = omega arith
shallow_at h (x ∷ xs) zero a = a.0
shallow_at h (x ∷ xs) (suc k) a = shallow_at h xs k a.1

pub meaning_shallow : (f : Formula) (k : ℕ) → past_depth (slice_index_or (meanings f) k (Const false)) ≤ past_depth f
meaning_shallow f k = shallow_at (past_depth f) (meanings f) k (shallow f)
