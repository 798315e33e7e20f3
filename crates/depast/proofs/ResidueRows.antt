-- What the rows of residues read as.
use Rattle.std.proofs.Common.{◌≡◌, ℕ, suc, zero, ◌+◌, ◌-◌, ◌≤◌, refl, sym, subst, ap, ◌∙◌, arith, Bool, List, [], ◌∷◌, ◌++◌, append_assoc}
use Rattle.ltl_syntax.specs.declared.node.BinaryOp.{BinaryOp}
use Rattle.ltl_syntax.specs.Formula.{Formula, Binary}
use Rattle.depast.specs.declared.symbol.Symbol.{Symbol}
use Rattle.depast.specs.declared.symbol.Symbol.TheVariants as symbols
use Rattle.depast.specs.Symbols.{Letters, Reads, Writes}
use Rattle.depast.specs.Depast.{step_back, joined_back}
use Rattle.depast.proofs.Rows.{reads_on}

-- a row goes on behind the front part of a longer one
pub goes_on_behind : (front back more row new : List Symbol) → row ≡ front ++ back → new ≡ row ++ more → new ≡ front ++ (back ++ more)
goes_on_behind front back more row new e₁ e₂ = e₂ ∙ (ap (λ xs. xs ++ more) e₁ ∙ append_assoc front back more)

pub one_more_back : (l : Letters) (op : BinaryOp) (none : Bool) (k n m : ℕ) (c : Formula) (xs : List Symbol)
    → m ≤ n → Writes l xs (joined_back op none (step_back l.new k c) m (suc n - m))
    → Writes l (xs ++ symbols.New (k + n) ∷ symbols.Binary op ∷ []) (joined_back op none (step_back l.new k c) m (suc (n + 1) - m))
one_more_back l op none k n m c xs le w s =
    let e₁ : suc n - m ≡ suc (n - m) = omega arith in
    let e₂ : suc (n + 1) - m ≡ suc (suc (n - m)) = omega arith in
    let e₃ : m + suc (n - m) ≡ suc n = omega arith in
    let u = step_back l.new k c in
    let old : Reads l xs s (joined_back op none (step_back l.new k c) m (suc (n - m)) ∷ s) =
    subst (λ i. Reads l xs s (joined_back op none (step_back l.new k c) m i ∷ s)) e₁ (w s) in
    subst (λ i. Reads l (xs ++ symbols.New (k + n) ∷ symbols.Binary op ∷ []) s (joined_back op none (step_back l.new k c) m i ∷ s)) (sym e₂)
    (subst (λ i. Reads l (xs ++ symbols.New (k + n) ∷ symbols.Binary op ∷ []) s
    (Binary op (joined_back op none (step_back l.new k c) m (suc (n - m))) (step_back l.new k c i) ∷ s)) (sym e₃)
    (reads_on l xs (symbols.New (k + n) ∷ symbols.Binary op ∷ []) s (joined_back op none (step_back l.new k c) m (suc (n - m)) ∷ s)
    (Binary op (joined_back op none (step_back l.new k c) m (suc (n - m))) (l.new (k + n)) ∷ s) old refl))

-- one step back alone
pub one_back : (l : Letters) (op : BinaryOp) (none : Bool) (k m : ℕ) (c : Formula) (xs : List Symbol) → Writes l xs (step_back l.new k c m)
    → Writes l xs (joined_back op none (step_back l.new k c) m (suc m - m))
one_back l op none k m c xs w s = let e : suc m - m ≡ suc zero = omega arith in
    subst (λ i. Reads l xs s (joined_back op none (step_back l.new k c) m i ∷ s)) (sym e) (w s)
