-- The formula without past is larger than the number of names that it takes, since each has an axiom.
use Rattle.std.proofs.Common.{◌≡◌, ℕ, zero, suc, ◌+◌, ◌≤◌, ◌<◌, refl, arith, List, [], ◌∷◌, ◌++◌, length, length-append}
use Rattle.ltl_syntax.specs.declared.node.UnaryOp.{UnaryOp}
use Rattle.ltl_syntax.specs.declared.node.BinaryOp.{BinaryOp}
use Rattle.ltl_syntax.specs.declared.node.UnaryOp.TheVariants.{HistoricallyIn}
use Rattle.ltl_syntax.specs.declared.node.UnaryOp.TheVariants.{OnceIn, YesterdayTimes}
use Rattle.ltl_syntax.specs.declared.node.BinaryOp.TheVariants.{And}
use Rattle.ltl_syntax.specs.Formula.{Formula, Const, Letter, Unary, Binary}
use Rattle.ltl_syntax.specs.Size.{formula_size}
use Rattle.depast.specs.Depast.{taken, taken₁, taken₂, residue, yesterday_axiom, weak_yesterday_axiom, back_axioms, step_back, axioms, axioms₁, axioms₂}
use Rattle.depast.specs.Depast.{conjoined, letter_for, depast}
use Rattle.depast.specs.Laws.{HasFewNames}

module _ (z : ℕ → Formula) where
  length-back : (says : Formula → Formula → Formula) (k : ℕ) (c : Formula) (n : ℕ) → length (back_axioms says z k c n) ≡ n
  length-back says k c zero = refl
  length-back says k c (suc n) = omega (arith, length-back says k c n, length-append (back_axioms says z k c n) (says (step_back z k c n) (z (k + n)) ∷ []))

  length-axioms₁ : (op : UnaryOp) (k : ℕ) (c : Formula) → length (axioms₁ z k op c) ≡ taken₁ op
  length-axioms₁ (YesterdayTimes n) k c = length-back yesterday_axiom k c n
  length-axioms₁ (OnceIn m n) k c = length-back yesterday_axiom k c n
  length-axioms₁ (HistoricallyIn m n) k c = length-back weak_yesterday_axiom k c n
  length-axioms₁ op k c = refl

  length-axioms₂ : (op : BinaryOp) (k : ℕ) (c d : Formula) → length (axioms₂ z k op c d) ≡ taken₂ op
  length-axioms₂ And k c d = refl
  length-axioms₂ op k c d = refl

  -- each name has one axiom
  pub length-axioms : (f : Formula) (n : ℕ) → length (axioms z n f) ≡ taken f
  length-axioms (Const b) n = refl
  length-axioms (Letter p) n = refl
  length-axioms (Unary op a) n =
      let xs = axioms₁ z (n + taken a) op (residue z n a) in
      omega
      (arith, length-axioms a n, length-axioms₁ op (n + taken a) (residue z n a), length-append (axioms z n a) (axioms₁ z (n + taken a) op (residue z n a)))
  length-axioms (Binary op a b) n =
      let c = residue z n a in
      let d = residue z (n + taken a) b in
      omega (
        arith,
        length-axioms a n,
        length-axioms b (n + taken a),
        length-axioms₂ op (n + taken a + taken b) (residue z n a) (residue z (n + taken a) b),
        length-append (axioms z n a) (axioms z (n + taken a) b ++ axioms₂ z (n + taken a + taken b) op (residue z n a) (residue z (n + taken a) b)),
        length-append (axioms z (n + taken a) b) (axioms₂ z (n + taken a + taken b) op (residue z n a) (residue z (n + taken a) b)),
      )

joined_size : (xs : List Formula) (f : Formula) → formula_size f + length xs ≤ formula_size (conjoined f xs)
joined_size [] f = omega arith
joined_size (x ∷ xs) f = let r = joined_size xs (Binary And f x) in omega arith

some_size : (f : Formula) → 0 < formula_size f
some_size (Unary op a) = let r = some_size a in omega arith
some_size other = omega arith

pub names_counted : (f : Formula) → taken f < formula_size (depast f)
names_counted f =
    omega
    (arith, joined_size (axioms (letter_for f) 0 f) (residue (letter_for f) 0 f), length-axioms (letter_for f) f 0, some_size (residue (letter_for f) 0 f))

pub few_where_small : (f : Formula) → formula_size (depast f) ≤ 16384 → HasFewNames f
few_where_small f h = omega (arith, names_counted f)
