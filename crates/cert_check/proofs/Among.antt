-- Literals that have to be among two, one after another.
use Rattle.std.proofs.Common.{◌≡◌, ◌↔◌, inl, inr, Bool, true, false, not, eqb, IsTrue, List, [], ◌∷◌, All, Contains, refl, sym, subst, ap, ap₂, ◌∙◌, arith}
use mathlib.Core.Bool.{false≢true, ◌&&◌, beq}
use Rattle.std.proofs.lemmas.Bool.{eq-eqb}
use Rattle.std.proofs.lemmas.List.Elements.{All-nil, All-cons, All-head, All-tail}
use Rattle.ltl_closure.proofs.Lists.{Contains-nil, Contains-cons_cases}
use Rattle.cnf_base.specs.declared.literal.Literal.{Literal as Signed}

beq_self : (b : Bool) → beq b b ≡ true
beq_self true = refl
beq_self false = refl

-- literals that `!=` tells apart are two
pub differ : (a b : Signed) → not (eqb a.letter.0 b.letter.0 && beq a.negated b.negated) ≡ true → a ≡ b → ⊥
differ a b apart same =
    let letters : eqb a.letter.0 b.letter.0 ≡ true = eq-eqb a.letter.0 b.letter.0 (ap (λ (l : Signed). l.letter.0) same) in
    let signs : beq a.negated b.negated ≡ true = subst (λ (l : Signed). beq a.negated l.negated ≡ true) same (beq_self a.negated) in
    false≢true (sym (ap not (ap₂ ◌&&◌ letters signs)) ∙ apart)

module _ (first second : Signed) where
  pub is_first : (l : Signed) → l ≡ first → Contains (first ∷ second ∷ []) l
  is_first l e = (0, omega arith, sym e)

  pub is_second : (l : Signed) → l ≡ second → Contains (first ∷ second ∷ []) l
  is_second l e = (1, omega arith, sym e)

  pub among_starts : (rest whole : List Signed) → rest ≡ whole → All (Contains (first ∷ second ∷ [])) rest ↔ All (Contains (first ∷ second ∷ [])) whole
  among_starts rest whole e = ((λ all. subst (All (Contains (first ∷ second ∷ []))) e all), λ all. subst (All (Contains (first ∷ second ∷ []))) (sym e) all)

  pub among_on : (rest more whole : List Signed) (l : Signed) → rest ≡ l ∷ more → Contains (first ∷ second ∷ []) l
      → (All (Contains (first ∷ second ∷ [])) rest ↔ All (Contains (first ∷ second ∷ [])) whole)
      → All (Contains (first ∷ second ∷ [])) more ↔ All (Contains (first ∷ second ∷ [])) whole
  among_on rest more whole l is here same = (
    λ all. same.0 (subst (All (Contains (first ∷ second ∷ []))) (sym is) (All-cons (Contains (first ∷ second ∷ [])) l more here all)),
    λ all. All-tail (Contains (first ∷ second ∷ [])) l more (subst (All (Contains (first ∷ second ∷ []))) is (same.1 all)),
  )

  pub among_ends : (rest whole : List Signed) → rest ≡ [] → (All (Contains (first ∷ second ∷ [])) rest ↔ All (Contains (first ∷ second ∷ [])) whole)
      → IsTrue true ↔ All (Contains (first ∷ second ∷ [])) whole
  among_ends rest whole none same =
      ((λ t. same.0 (subst (All (Contains (first ∷ second ∷ []))) (sym none) (All-nil (Contains (first ∷ second ∷ []))))), λ all. refl)

  pub among_not : (rest more whole : List Signed) (l : Signed) → rest ≡ l ∷ more → (l ≡ first → ⊥) → (l ≡ second → ⊥)
      → (All (Contains (first ∷ second ∷ [])) rest ↔ All (Contains (first ∷ second ∷ [])) whole)
      → IsTrue false ↔ All (Contains (first ∷ second ∷ [])) whole
  among_not rest more whole l is one two same = (
    (λ t. absurd (false≢true t)),
    λ all.
        let here = All-head (Contains (first ∷ second ∷ [])) l more (subst (All (Contains (first ∷ second ∷ []))) is (same.1 all)) in
        absurd (elim (Contains-cons_cases first (second ∷ []) l here) [
          | inl e ↦ one (sym e)
          | inr r ↦ elim (Contains-cons_cases second [] l r) [ inl e ↦ two (sym e) | inr n ↦ Contains-nil l n ]
        ]),
  )
