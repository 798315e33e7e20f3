-- A formula without its past operators: its residue, in which new names stand for them, with an axiom for each new name.
-- Past operators are visited children first and left before right, and take their names in this order.
use Rattle.std.specs.Prelude.{ℕ, zero, suc, ◌+◌, ◌-◌, Bool, true, false, List, [], ◌∷◌, ◌++◌}
use Rattle.ltl_syntax.specs.declared.node.UnaryOp.{UnaryOp}
use Rattle.ltl_syntax.specs.declared.node.BinaryOp.{BinaryOp}
use Rattle.ltl_syntax.specs.declared.node.UnaryOp.TheVariants.{Always, AlwaysIn, Eventually, EventuallyIn, Historically, HistoricallyIn, Next, NextTimes, Not}
use Rattle.ltl_syntax.specs.declared.node.UnaryOp.TheVariants.{Once, OnceIn, WeakNext, WeakYesterday, Yesterday, YesterdayTimes}
use Rattle.ltl_syntax.specs.declared.node.BinaryOp.TheVariants.{And, Iff, Implies, Or, Release, Since, StrongRelease, Trigger, Until, WeakUntil}
use Rattle.ltl_syntax.specs.Formula.{Formula, Const, Letter, Unary, Binary}
use Rattle.ltl_syntax.specs.Shape.{shape}
use Rattle.ltl_word.specs.Depth.{steps_back}
use Rattle.depast.specs.Names.{most_leading, new_letter}

-- how many names an operator takes: a bounded one as many as it looks back
abbrev pub taken₁ : UnaryOp → ℕ
taken₁ op = steps_back (shape op)

abbrev pub taken₂ : BinaryOp → ℕ
taken₂ And = 0
taken₂ Or = 0
taken₂ Implies = 0
taken₂ Iff = 0
taken₂ Until = 0
taken₂ Release = 0
taken₂ WeakUntil = 0
taken₂ StrongRelease = 0
taken₂ Since = 1
taken₂ Trigger = 1

-- how many names a formula takes
abbrev pub taken : Formula → ℕ
taken (Const b) = 0
taken (Letter p) = 0
taken (Unary op a) = taken a + taken₁ op
taken (Binary op a b) = taken a + taken b + taken₂ op

-- z gives the letter of a number. Behind the residue c stand the letters from number k on, one for each step back
abbrev pub step_back : (ℕ → Formula) → ℕ → Formula → ℕ → Formula
step_back z k c zero = c
step_back z k c (suc m) = z (k + m)

-- as many of them as n, from the one m steps back on, joined to the left
abbrev pub joined_back : BinaryOp → Bool → (ℕ → Formula) → ℕ → ℕ → Formula
joined_back op none u m zero = Const none
joined_back op none u m (suc zero) = u m
joined_back op none u m (suc (suc n)) = Binary op (joined_back op none u m (suc n)) (u (m + suc n))

-- what stands for an operator over a residue, where its names have the numbers from k on
abbrev pub residue₁ : (ℕ → Formula) → ℕ → UnaryOp → Formula → Formula
residue₁ z k Not c = Unary Not c
residue₁ z k Next c = Unary Next c
residue₁ z k WeakNext c = Unary WeakNext c
residue₁ z k Eventually c = Unary Eventually c
residue₁ z k Always c = Unary Always c
residue₁ z k Yesterday c = z k
residue₁ z k WeakYesterday c = z k
residue₁ z k Once c = z k
residue₁ z k Historically c = z k
residue₁ z k (NextTimes n) c = Unary (NextTimes n) c
residue₁ z k (YesterdayTimes n) c = step_back z k c n
residue₁ z k (EventuallyIn m n) c = Unary (EventuallyIn m n) c
residue₁ z k (AlwaysIn m n) c = Unary (AlwaysIn m n) c
residue₁ z k (OnceIn m n) c = joined_back Or false (step_back z k c) m (suc n - m)
residue₁ z k (HistoricallyIn m n) c = joined_back And true (step_back z k c) m (suc n - m)

abbrev pub residue₂ : (ℕ → Formula) → ℕ → BinaryOp → Formula → Formula → Formula
residue₂ z k And c d = Binary And c d
residue₂ z k Or c d = Binary Or c d
residue₂ z k Implies c d = Binary Implies c d
residue₂ z k Iff c d = Binary Iff c d
residue₂ z k Until c d = Binary Until c d
residue₂ z k Release c d = Binary Release c d
residue₂ z k WeakUntil c d = Binary WeakUntil c d
residue₂ z k StrongRelease c d = Binary StrongRelease c d
residue₂ z k Since c d = z k
residue₂ z k Trigger c d = z k

-- the residue of a formula whose names have the numbers from n on
abbrev pub residue : (ℕ → Formula) → ℕ → Formula → Formula
residue z n (Const b) = Const b
residue z n (Letter p) = Letter p
residue z n (Unary op a) = residue₁ z (n + taken a) op (residue z n a)
residue z n (Binary op a b) = residue₂ z (n + taken a + taken b) op (residue z n a) (residue z (n + taken a) b)

-- what each name's axiom says: how it begins, and how it goes on from a position to the next
abbrev pub weakly : Formula → Formula
weakly a = Unary WeakNext a

abbrev pub goes_on : Formula → Formula → Formula → Formula
goes_on a yes' no' = Unary Always (Binary Or (Binary And a (weakly yes')) (Binary And (Unary Not a) (weakly no')))

abbrev pub yesterday_axiom : Formula → Formula → Formula
yesterday_axiom a z = Binary And (Unary Not z) (goes_on a z (Unary Not z))

abbrev pub weak_yesterday_axiom : Formula → Formula → Formula
weak_yesterday_axiom a z = Binary And z (goes_on a z (Unary Not z))

abbrev pub since_axiom : Formula → Formula → Formula → Formula
since_axiom a b z = Binary And (Binary Iff z b) (goes_on z (Binary Iff z (Binary Or b a)) (Binary Iff z b))

abbrev pub trigger_axiom : Formula → Formula → Formula → Formula
trigger_axiom a b z = Binary And (Binary Iff z b) (goes_on z (Binary Iff z b) (Binary Iff z (Binary And b a)))

-- the axioms of as many names as n, each of which stands for one step back from the one before
abbrev pub back_axioms : (Formula → Formula → Formula) → (ℕ → Formula) → ℕ → Formula → ℕ → List Formula
back_axioms says z k c zero = []
back_axioms says z k c (suc n) = back_axioms says z k c n ++ says (step_back z k c n) (z (k + n)) ∷ []

-- the axioms of an operator over residues
abbrev pub axioms₁ : (ℕ → Formula) → ℕ → UnaryOp → Formula → List Formula
axioms₁ z k Not c = []
axioms₁ z k Next c = []
axioms₁ z k WeakNext c = []
axioms₁ z k Eventually c = []
axioms₁ z k Always c = []
axioms₁ z k Yesterday c = yesterday_axiom c (z k) ∷ []
axioms₁ z k WeakYesterday c = weak_yesterday_axiom c (z k) ∷ []
axioms₁ z k Once c = since_axiom (Const true) c (z k) ∷ []
axioms₁ z k Historically c = trigger_axiom (Const false) c (z k) ∷ []
axioms₁ z k (NextTimes n) c = []
axioms₁ z k (YesterdayTimes n) c = back_axioms yesterday_axiom z k c n
axioms₁ z k (EventuallyIn m n) c = []
axioms₁ z k (AlwaysIn m n) c = []
axioms₁ z k (OnceIn m n) c = back_axioms yesterday_axiom z k c n
axioms₁ z k (HistoricallyIn m n) c = back_axioms weak_yesterday_axiom z k c n

abbrev pub axioms₂ : (ℕ → Formula) → ℕ → BinaryOp → Formula → Formula → List Formula
axioms₂ z k And c d = []
axioms₂ z k Or c d = []
axioms₂ z k Implies c d = []
axioms₂ z k Iff c d = []
axioms₂ z k Until c d = []
axioms₂ z k Release c d = []
axioms₂ z k WeakUntil c d = []
axioms₂ z k StrongRelease c d = []
axioms₂ z k Since c d = since_axiom c d (z k) ∷ []
axioms₂ z k Trigger c d = trigger_axiom c d (z k) ∷ []

-- the axioms of a formula, in the order of its names
abbrev pub axioms : (ℕ → Formula) → ℕ → Formula → List Formula
axioms z n (Const b) = []
axioms z n (Letter p) = []
axioms z n (Unary op a) = axioms z n a ++ axioms₁ z (n + taken a) op (residue z n a)
axioms z n (Binary op a b) = axioms z n a ++ (axioms z (n + taken a) b ++ axioms₂ z (n + taken a + taken b) op (residue z n a) (residue z (n + taken a) b))

-- a formula joined with others to the left
abbrev pub conjoined : Formula → List Formula → Formula
conjoined f [] = f
conjoined f (x ∷ xs) = conjoined (Binary And f x) xs

-- the letter of a number, for a formula's own names
abbrev pub letter_for : Formula → ℕ → Formula
letter_for f number = new_letter (most_leading f) number

-- the formula without past operators
abbrev pub depast : Formula → Formula
depast f = conjoined (residue (letter_for f) 0 f) (axioms (letter_for f) 0 f)
