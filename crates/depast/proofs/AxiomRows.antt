-- What the rows of axioms read as, piece by piece.
use Rattle.std.proofs.Common.{◌≡◌, ℕ, suc, zero, ◌+◌, ◌-◌, refl, sym, subst, ap, arith, List, [], ◌∷◌, ◌++◌}
use Rattle.ltl_syntax.specs.declared.node.BinaryOp.{BinaryOp}
use Rattle.ltl_syntax.specs.declared.node.UnaryOp.TheVariants.{Always, Not, WeakNext}
use Rattle.ltl_syntax.specs.declared.node.BinaryOp.TheVariants.{And, Iff, Or}
use Rattle.ltl_syntax.specs.Formula.{Formula, Unary, Binary}
use Rattle.depast.specs.declared.symbol.Symbol.{Symbol}
use Rattle.depast.specs.declared.symbol.Symbol.TheVariants as symbols
use Rattle.depast.specs.Symbols.{Letters, Reads, Writes}
use Rattle.depast.specs.Depast.{goes_on, back_axioms, step_back, conjoined}
use Rattle.depast.proofs.Rows.{reads_more, writes_on}

module _ (l : Letters) (n : ℕ) (r : List Formula) where
  abbrev z : Formula
  z = l.new n

  pub stepping_reads : (x₀ x₁ x₂ x₃ x₄ xs : List Symbol) (c b f : Formula) (s : List Formula)
      → x₁ ≡ x₀ ++ xs → x₂ ≡ x₁ ++ symbols.New n ∷ symbols.Unary WeakNext ∷ symbols.Binary And ∷ [] → x₃ ≡ x₂ ++ xs
      → x₄ ≡ x₃ ++ symbols.Unary Not ∷ symbols.New n ∷ symbols.Unary Not ∷ symbols.Unary WeakNext ∷ symbols.Binary And ∷ symbols.Binary Or ∷ symbols.Unary
      Always ∷ symbols.Binary And ∷ symbols.Binary And ∷ []
      → Writes l xs c → Reads l x₀ r (b ∷ f ∷ s) → Reads l x₄ r (Binary And f (Binary And b (goes_on c z (Unary Not z))) ∷ s)
  stepping_reads x₀ x₁ x₂ x₃ x₄ xs c b f s e₁ e₂ e₃ e₄ w h =
      let first = writes_on l x₀ xs x₁ r (b ∷ f ∷ s) c e₁ h w in
      let second = reads_more l x₁ _ x₂ r (c ∷ b ∷ f ∷ s) (Binary And c (Unary WeakNext z) ∷ b ∷ f ∷ s) e₂ first (tt, refl) in
      let third = writes_on l x₂ xs x₃ r (Binary And c (Unary WeakNext z) ∷ b ∷ f ∷ s) c e₃ second w in
      reads_more l x₃ _ x₄ r (c ∷ Binary And c (Unary WeakNext z) ∷ b ∷ f ∷ s) (Binary And f (Binary And b (goes_on c z (Unary Not z))) ∷ s) e₄ third
      (tt, (tt, (tt, (tt, refl))))

  pub same_reads : (x₀ x₁ x₂ x₃ xs : List Symbol) (c : Formula) (s : List Formula)
      → x₁ ≡ x₀ ++ symbols.New n ∷ [] → x₂ ≡ x₁ ++ xs → x₃ ≡ x₂ ++ symbols.Binary Iff ∷ []
      → Writes l xs c → Reads l x₀ r s → Reads l x₃ r (Binary Iff z c ∷ s)
  same_reads x₀ x₁ x₂ x₃ xs c s e₁ e₂ e₃ w h =
      let first = reads_more l x₀ _ x₁ r s (z ∷ s) e₁ h refl in
      let second = writes_on l x₁ xs x₂ r (z ∷ s) c e₂ first w in
      reads_more l x₂ _ x₃ r (c ∷ z ∷ s) (Binary Iff z c ∷ s) e₃ second refl

  pub joined_reads : (x₀ x₁ x₂ x₃ x₄ xs ys : List Symbol) (op : BinaryOp) (c d : Formula) (s : List Formula)
      → x₁ ≡ x₀ ++ symbols.New n ∷ [] → x₂ ≡ x₁ ++ ys → x₃ ≡ x₂ ++ xs
      → x₄ ≡ x₃ ++ symbols.Binary op ∷ symbols.Binary Iff ∷ [] → Writes l xs c → Writes l ys d → Reads l x₀ r s
      → Reads l x₄ r (Binary Iff z (Binary op d c) ∷ s)
  joined_reads x₀ x₁ x₂ x₃ x₄ xs ys op c d s e₁ e₂ e₃ e₄ w v h =
      let first = reads_more l x₀ _ x₁ r s (z ∷ s) e₁ h refl in
      let second = writes_on l x₁ ys x₂ r (z ∷ s) d e₂ first v in
      let third = writes_on l x₂ xs x₃ r (d ∷ z ∷ s) c e₃ second w in
      reads_more l x₃ _ x₄ r (c ∷ d ∷ z ∷ s) (Binary Iff z (Binary op d c) ∷ s) e₄ third refl

conjoined-push : (f : Formula) (xs : List Formula) (x : Formula) → conjoined f (xs ++ x ∷ []) ≡ Binary And (conjoined f xs) x
conjoined-push f [] x = refl
conjoined-push f (y ∷ xs) x = conjoined-push (Binary And f y) xs x

-- one step back more
pub chain_reads : (l : Letters) (says : Formula → Formula → Formula) (k n : ℕ) (c f : Formula) (r s : List Formula) (xs : List Symbol)
    → Reads l xs r (Binary And (conjoined f (back_axioms says l.new k c n)) (says (step_back l.new k c n) (l.new (k + n))) ∷ s)
    → Reads l xs r (conjoined f (back_axioms says l.new k c (n + 1)) ∷ s)
chain_reads l says k n c f r s xs h =
    let e : suc n ≡ n + 1 = omega arith in
    subst (λ m. Reads l xs r (conjoined f (back_axioms says l.new k c m) ∷ s)) e
    (subst (λ g. Reads l xs r (g ∷ s)) (sym (conjoined-push f (back_axioms says l.new k c n) (says (step_back l.new k c n) (l.new (k + n))))) h)

-- the name of the step before
pub before_writes : (l : Letters) (k n : ℕ) (c : Formula) → (n ≡ 0 → ⊥) → Writes l (symbols.New (k + (n - 1)) ∷ []) (step_back l.new k c n)
before_writes l k zero c h = absurd (h refl)
before_writes l k (suc n) c h = λ s. let e : suc n - 1 ≡ n = omega arith in ap (λ m. l.new (k + m) ∷ s) e
