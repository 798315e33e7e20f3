-- What is counted is the size of the formula without past operators, and not too large for 32 bits.
use Rattle.std.proofs.Common.{◌≡◌, ℕ, zero, suc, ◌+◌, ◌-◌, ◌*◌, refl, sym, ◌∙◌, ap, arith, inl, inr, lt-ltb, le-ltb, Bool, List, [], ◌∷◌, ◌++◌}
use Rattle.std.proofs.lemmas.Bool.{cases_lt, cond-true, cond-false}
use Rattle.ltl_syntax.specs.declared.node.UnaryOp.{UnaryOp}
use Rattle.ltl_syntax.specs.declared.node.BinaryOp.{BinaryOp}
use Rattle.ltl_syntax.specs.declared.node.UnaryOp.TheVariants.{Historically, HistoricallyIn}
use Rattle.ltl_syntax.specs.declared.node.UnaryOp.TheVariants.{Once, OnceIn, WeakYesterday, Yesterday, YesterdayTimes}
use Rattle.ltl_syntax.specs.declared.node.BinaryOp.TheVariants.{And, Or, Since, Trigger}
use Rattle.ltl_syntax.specs.Formula.{Formula, Const, Letter, Unary, Binary}
use Rattle.ltl_syntax.specs.Size.{formula_size}
use Rattle.depast.specs.Depast.{residue, residue₁, residue₂, axioms, axioms₁, axioms₂, step_back, joined_back, back_axioms, conjoined, depast, letter_for}
use Rattle.depast.specs.Depast.{taken, yesterday_axiom, weak_yesterday_axiom}
use Rattle.depast.specs.Counting.{step_size, range_size, residue_size, residue_size₁, residue_size₂, chain_size, axioms_size, axioms_size₁, axioms_size₂}

-- the sum of the sizes of formulas, each joined to what is before it
abbrev said_size : List Formula → ℕ
said_size [] = 0
said_size (x ∷ xs) = formula_size x + 1 + said_size xs

said_size-append : (xs ys : List Formula) → said_size (xs ++ ys) ≡ said_size xs + said_size ys
said_size-append [] ys = omega arith
said_size-append (x ∷ xs) ys = omega (arith, said_size-append xs ys)

conjoined_size : (f : Formula) (xs : List Formula) → formula_size (conjoined f xs) ≡ formula_size f + said_size xs
conjoined_size f [] = omega arith
conjoined_size f (x ∷ xs) = omega (arith, conjoined_size (Binary And f x) xs)

module _ (z : ℕ → Formula) (small : (k : ℕ) → formula_size (z k) ≡ 1) where
  step_sized : (k : ℕ) (c : Formula) (m : ℕ) → formula_size (step_back z k c m) ≡ step_size m (formula_size c)
  step_sized k c zero = refl
  step_sized k c (suc m) = small (k + m)

  joined_sized : (op : BinaryOp) (none : Bool) (k : ℕ) (c : Formula) (m n : ℕ)
      → formula_size (joined_back op none (step_back z k c) m (suc n)) ≡ step_size m (formula_size c) + 2 * n
  joined_sized op none k c m zero = omega (arith, step_sized k c m)
  joined_sized op none k c m (suc n) =
      let e : m + suc n ≡ suc (m + n) = omega arith in
      let one : formula_size (step_back z k c (m + suc n)) ≡ 1 = ap (λ i. formula_size (step_back z k c i)) e ∙ small (k + (m + n)) in
      omega (arith, joined_sized op none k c m n, one)

  range_sized : (op : BinaryOp) (none : Bool) (k : ℕ) (c : Formula) (m n : ℕ)
      → formula_size (joined_back op none (step_back z k c) m (suc n - m)) ≡ range_size m n (formula_size c)
  range_sized op none k c m n = elim (cases_lt n m) [
    | inl empty ↦
        let e : suc n - m ≡ zero = omega arith in
        ap (λ i. formula_size (joined_back op none (step_back z k c) m i)) e ∙ sym (cond-true _ _ _ (lt-ltb n m empty))
    | inr some ↦
        let e : suc n - m ≡ suc (n - m) = omega arith in
        ap (λ i. formula_size (joined_back op none (step_back z k c) m i)) e ∙ (joined_sized op none k c m (n - m) ∙ sym (cond-false _ _ _ (le-ltb n m some)))
  ]

  residue_sized₁ : (k : ℕ) (op : UnaryOp) (c : Formula) → formula_size (residue₁ z k op c) ≡ residue_size₁ op (formula_size c)
  residue_sized₁ k Yesterday c = small k
  residue_sized₁ k WeakYesterday c = small k
  residue_sized₁ k Once c = small k
  residue_sized₁ k Historically c = small k
  residue_sized₁ k (YesterdayTimes n) c = step_sized k c n
  residue_sized₁ k (OnceIn m n) c = range_sized Or _ k c m n
  residue_sized₁ k (HistoricallyIn m n) c = range_sized And _ k c m n
  residue_sized₁ k op c = refl

  residue_sized₂ : (k : ℕ) (op : BinaryOp) (c d : Formula) → formula_size (residue₂ z k op c d) ≡ residue_size₂ op (formula_size c) (formula_size d)
  residue_sized₂ k Since c d = small k
  residue_sized₂ k Trigger c d = small k
  residue_sized₂ k op c d = refl

  residue_sized : (n : ℕ) (f : Formula) → formula_size (residue z n f) ≡ residue_size f
  residue_sized n (Const b) = refl
  residue_sized n (Letter p) = refl
  residue_sized n (Unary op a) = residue_sized₁ (n + taken a) op (residue z n a) ∙ ap (residue_size₁ op) (residue_sized n a)
  residue_sized n (Binary op a b) =
      residue_sized₂ (n + taken a + taken b) op (residue z n a) (residue z (n + taken a) b)
      ∙ (ap (λ r. residue_size₂ op r (formula_size (residue z (n + taken a) b))) (residue_sized n a)
      ∙ ap (residue_size₂ op (residue_size a)) (residue_sized (n + taken a) b))

  -- chains, of which an axiom takes so much beside twice its operand
  chain_sized : (says : Formula → Formula → Formula) (each k : ℕ) (c : Formula)
      → ((a y : Formula) → formula_size y ≡ 1 → formula_size (says a y) + 1 ≡ each + 2 * formula_size a)
      → (n : ℕ) → said_size (back_axioms says z k c n) ≡ chain_size each n (formula_size c)
  chain_sized says each k c is zero = refl
  chain_sized says each k c is (suc zero) = let one = is c (z (k + zero)) (small (k + zero)) in omega (arith, one)
  chain_sized says each k c is (suc (suc n)) =
      let before = chain_sized says each k c is (suc n) in
      let one = is (z (k + n)) (z (k + suc n)) (small (k + suc n)) in
      let s = small (k + n) in
      let split = said_size-append (back_axioms says z k c (suc n)) (says (z (k + n)) (z (k + suc n)) ∷ []) in
      omega (arith, before, one, s, split)

  yesterday_sized : (a y : Formula) → formula_size y ≡ 1 → formula_size (yesterday_axiom a y) + 1 ≡ 14 + 2 * formula_size a
  yesterday_sized a y one = omega (arith, one)

  weak_yesterday_sized : (a y : Formula) → formula_size y ≡ 1 → formula_size (weak_yesterday_axiom a y) + 1 ≡ 13 + 2 * formula_size a
  weak_yesterday_sized a y one = omega (arith, one)

  axioms_sized₁ : (k : ℕ) (op : UnaryOp) (c : Formula) → said_size (axioms₁ z k op c) ≡ axioms_size₁ op (formula_size c)
  axioms_sized₁ k Yesterday c = omega (arith, small k)
  axioms_sized₁ k WeakYesterday c = omega (arith, small k)
  axioms_sized₁ k Once c = omega (arith, small k)
  axioms_sized₁ k Historically c = omega (arith, small k)
  axioms_sized₁ k (YesterdayTimes n) c = chain_sized yesterday_axiom 14 k c yesterday_sized n
  axioms_sized₁ k (OnceIn m n) c = chain_sized yesterday_axiom 14 k c yesterday_sized n
  axioms_sized₁ k (HistoricallyIn m n) c = chain_sized weak_yesterday_axiom 13 k c weak_yesterday_sized n
  axioms_sized₁ k op c = refl

  axioms_sized₂ : (k : ℕ) (op : BinaryOp) (c d : Formula) → said_size (axioms₂ z k op c d) ≡ axioms_size₂ op (formula_size c) (formula_size d)
  axioms_sized₂ k Since c d = omega (arith, small k)
  axioms_sized₂ k Trigger c d = omega (arith, small k)
  axioms_sized₂ k op c d = refl

  axioms_sized : (n : ℕ) (f : Formula) → said_size (axioms z n f) ≡ axioms_size f
  axioms_sized n (Const b) = refl
  axioms_sized n (Letter p) = refl
  axioms_sized n (Unary op a) =
      let own : said_size (axioms₁ z (n + taken a) op (residue z n a)) ≡ axioms_size₁ op (residue_size a) =
      axioms_sized₁ (n + taken a) op (residue z n a) ∙ ap (axioms_size₁ op) (residue_sized n a) in
      omega (arith, own, axioms_sized n a, said_size-append (axioms z n a) (axioms₁ z (n + taken a) op (residue z n a)))
  axioms_sized n (Binary op a b) =
      let c = residue z n a in
      let d = residue z (n + taken a) b in
      let own : said_size (axioms₂ z (n + taken a + taken b) op (residue z n a) (residue z (n + taken a) b)) ≡ axioms_size₂ op (residue_size a)
      (residue_size b) =
      axioms_sized₂ (n + taken a + taken b) op (residue z n a) (residue z (n + taken a) b)
      ∙ (ap (λ r. axioms_size₂ op r (formula_size (residue z (n + taken a) b))) (residue_sized n a)
      ∙ ap (axioms_size₂ op (residue_size a)) (residue_sized (n + taken a) b)) in
      omega (
        arith,
        own,
        axioms_sized n a,
        axioms_sized (n + taken a) b,
        said_size-append (axioms z n a) (axioms z (n + taken a) b ++ axioms₂ z (n + taken a + taken b) op (residue z n a) (residue z (n + taken a) b)),
        said_size-append (axioms z (n + taken a) b) (axioms₂ z (n + taken a + taken b) op (residue z n a) (residue z (n + taken a) b)),
      )

pub size_counted : (f : Formula) → formula_size (depast f) ≡ residue_size f + axioms_size f
size_counted f =
    omega (
      arith,
      conjoined_size (residue (letter_for f) 0 f) (axioms (letter_for f) 0 f),
      residue_sized (letter_for f) (λ k. refl) 0 f,
      axioms_sized (letter_for f) (λ k. refl) 0 f,
    )
